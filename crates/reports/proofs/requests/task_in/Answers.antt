use Rattle.std.proofs.Common.{◌≡◌, ◌-◌, length, ◌∙◌, subst, arith}
use Rattle.reports.specs.Requests.{word_at, Says, Only}
use Rattle.reports.proofs.Asked.{word_read}
use Rattle.reports.proofs.requests.task_in.Goals as goal

pub returns-in-len4 : goal.returns-in-len4
returns-in-len4 c =
    let one : 1 ≡ length c.args.words.now - 3 = omega arith in
    subst (λ n. Only (Says (word_at c.args.words.now 1) n (word_at c.args.words.now 4)) c.task_on_one.result) one
    (subst (λ w. Only (Says w 1 (word_at c.args.words.now 4)) c.task_on_one.result) (c.as_str.ensures.value ∙ word_read c.args.words.now 1 c.task-item.result (omega arith) c.task-item.is) (c.task_on_one.ensures (word_at c.args.words.now 4)))

pub returns-in-len5 : goal.returns-in-len5
returns-in-len5 c =
    let two : 2 ≡ length c.args.words.now - 3 = omega arith in
    subst (λ n. Only (Says (word_at c.args.words.now 1) n (word_at c.args.words.now 4)) c.task_on_two.result) two
    (subst (λ w. Only (Says (word_at c.args.words.now 1) 2 w) c.task_on_two.result) (c.as_str-in-len5-2.ensures.value ∙ word_read c.args.words.now 4 c.second-item.result (omega arith) c.second-item.is)
    (subst (λ w. Only (Says w 2 c.as_str-in-len5-2.result.now) c.task_on_two.result)
    (c.as_str-in-len5.ensures.value ∙ word_read c.args.words.now 1 c.task-item-then-words-lt6.result (omega arith) c.task-item-then-words-lt6.is) c.task_on_two.ensures))
