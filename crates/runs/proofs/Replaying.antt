-- Call by call through a script.
use Rattle.std.proofs.Common.{◌≡◌, ℕ, ◌+◌, ◌<◌, ◌≤◌, List, [], ◌∷◌, ◌++◌, map, length, get_or, take, Option, Result, sym, refl, ap, ◌∙◌, append_assoc, append-nil}
use mathlib.Core.List.{map-append}
use Rattle.std.proofs.lemmas.List.{take_more, take_all}
use Rattle.cells.specs.declared.causes.Cause.{Cause}
use Rattle.collector.specs.Collections.{Banks}
use Rattle.runs.specs.declared.scripts.Call.{Call}
use Rattle.runs.specs.declared.scripts.Answer.{Answer}
use Rattle.runs.specs.Worlds.{World, answer, next, after, run}
use Rattle.runs.specs.Scripts.{said_by, event_of, Made, events_of, answers_of}

module _ {V : Type 0} (tidied : V → Option V) where
  -- where a script leads
  unfoldable pub led : World V → List (Call V) → World V
  led w cs = run tidied w (events_of tidied w cs)

  pub led_one : (w : World V) (cs : List (Call V)) (c : Call V) → (led w (cs ++ (c ∷ []))).banks ≡ next tidied (led w cs) (event_of (led w cs).banks c)
  unfolding led run after
  led_one w [] c = refl
  led_one w (d ∷ cs) c = led_one (after tidied w (event_of w.banks d)) cs c

  pub answers_one : (w : World V) (cs : List (Call V)) (c : Call V) → answers_of tidied w (cs ++ (c ∷ [])) ≡ answers_of tidied w cs ++ (answer tidied (led w cs) (event_of (led w cs).banks c) ∷ [])
  unfolding led run after
  answers_one w [] c = refl
  answers_one w (d ∷ cs) c = ap (λ xs. answer tidied w (event_of w.banks d) ∷ xs) (answers_one (after tidied w (event_of w.banks d)) cs c)

  -- one more call, made where the script has led so far
  pub goes_on : (w : World V) (cs : List (Call V)) (c : Call V) (b b' : Banks V) (r : Result (Answer V) Cause) → b ≡ (led w cs).banks → Made tidied c b r b' → b' ≡ (led w (cs ++ (c ∷ []))).banks
  goes_on w cs c b b' r at m =
      m.after (led w cs) (sym at) ∙ ap (λ x. next tidied (led w cs) (event_of x c)) at ∙ sym (led_one w cs c)

  pub says_on : (w : World V) (cs : List (Call V)) (c : Call V) (b b' : Banks V) (r : Result (Answer V) Cause) → b ≡ (led w cs).banks → Made tidied c b r b'
      → answers_of tidied w cs ++ (said_by r ∷ []) ≡ answers_of tidied w (cs ++ (c ∷ []))
  says_on w cs c b b' r at m =
      ap (λ x. answers_of tidied w cs ++ (x ∷ [])) (m.answer (led w cs) (sym at) ∙ ap (λ x. answer tidied (led w cs) (event_of x c)) at) ∙ sym (answers_one w cs c)

  -- the same where a run is named in full
  pub led_is : (w : World V) (cs : List (Call V)) → led w cs ≡ run tidied w (events_of tidied w cs)
  unfolding led
  led_is w cs = refl

  -- what holds once i calls of a script are made
  pub record Played (w : World V) (script : List (Call V)) (before : List (Result (Answer V) Cause)) (i : ℕ) (b : Banks V) (answers : List (Result (Answer V) Cause)) : Type 0 where
    pub at : b ≡ (led w (take i script)).banks
    pub told : map said_by answers ≡ map said_by before ++ answers_of tidied w (take i script)

  pub played_none : (w : World V) (script : List (Call V)) (before : List (Result (Answer V) Cause)) → Played w script before 0 w.banks before
  unfolding led run
  played_none w script before = record { at = refl; told = sym (append-nil (map said_by before)) }

  -- the calls so far and the next one
  pub one_more_lem : (script : List (Call V)) (i : ℕ) (c : Call V) → i < length script → c ≡ get_or script i c → take (i + 1) script ≡ take i script ++ (c ∷ [])
  one_more_lem script i c lt is = take_more script i c lt ∙ ap (λ x. take i script ++ (x ∷ [])) (sym is)

  -- a script that is made to its end
  pub played_all : (w : World V) (script : List (Call V)) (before : List (Result (Answer V) Cause)) (i : ℕ) (b : Banks V) (answers : List (Result (Answer V) Cause)) → Played w script before i b answers → length script ≤ i
      → (map said_by answers ≡ map said_by before ++ answers_of tidied w script) × (b ≡ (run tidied w (events_of tidied w script)).banks)
  played_all w script before i b answers p done =
      let all = take_all i script done in
      (p.told ∙ ap (λ cs. map said_by before ++ answers_of tidied w cs) all, p.at ∙ ap (λ cs. (led w cs).banks) all ∙ ap (λ x. x.banks) (led_is w script))

  pub played_one : (w : World V) (script : List (Call V)) (before : List (Result (Answer V) Cause)) (i : ℕ) (b b' : Banks V) (answers answers' : List (Result (Answer V) Cause)) (c : Call V) (r : Result (Answer V) Cause)
      → Played w script before i b answers → take (i + 1) script ≡ take i script ++ (c ∷ []) → Made tidied c b r b' → answers' ≡ answers ++ (r ∷ []) → Played w script before (i + 1) b' answers'
  played_one w script before i b b' answers answers' c r p more m is = record {
    at = goes_on w (take i script) c b b' r p.at m ∙ ap (λ cs. (led w cs).banks) (sym more);
    told =
        ap (map said_by) is ∙ map-append said_by answers (r ∷ []) ∙ ap (λ xs. xs ++ (said_by r ∷ [])) p.told ∙ append_assoc (map said_by before) (answers_of tidied w (take i script)) (said_by r ∷ [])
        ∙ ap (λ xs. map said_by before ++ xs) (says_on w (take i script) c b b' r p.at m ∙ ap (answers_of tidied w) (sym more));
  }
