-- The score of cases that were tried. Assumes nothing.
use Rattle.std.specs.Prelude.{ℕ, ◌+◌, ◌-◌, ◌^◌, min, Bool, cond, List, ◌++◌, codes, decimal}
use Rattle.trials.specs.declared.Score.{Score}

-- one more, as far as 32 bits go
abbrev pub one_more : ℕ → ℕ
one_more n = min (n + 1) (2 ^ 32 - 1)

-- a score with one case more
abbrev pub scored : Score → Bool → Score
scored s holds = cond holds (record { right = one_more s.right; wrong = s.wrong }) (record { right = s.right; wrong = one_more s.wrong })

abbrev pub score_text : Score → List ℕ
score_text s = decimal s.right ++ (codes " cases right, " ++ (decimal s.wrong ++ codes " wrong"))
