-- Answers of jobs, in the order of their texts.
use Rattle.std.specs.Prelude.{◌≡◌, ◌+◌, ℕ, List, [], ◌∷◌, Result, Ok, Err, IfOk, IfSome, length}
use Rattle.std.specs.Prelude.{slice_get, vec_len}
use Rattle.std.specs.declared.vec.Vec.{Vec}
use Rattle.std.specs.declared.alloc.Global.{Global}
use Rattle.std.proofs.Common.{arith, subst, add-one}
use Rattle.job_workers.specs.Results.{AreResults}
use Rattle.settler.specs.Answers.{Options}
use Rattle.command_runs.specs.declared.status.Status.{Status}
use Rattle.script_answers.specs.Answers.{ProvePrints}
use Rattle.batch_command.specs.Told.{AreAnswers}

-- a text with its answer has a place more than the list behind it
shifted : {O : Type 0} (P Q : ℕ → O → Type 0) (n : ℕ) → ((k : ℕ) (x : O) → P (k + 1) x → Q k x)
    → (xs : List O) → AreResults P (n + 1) xs → AreResults Q n xs
shifted P Q n along [] h = tt
shifted P Q n along (x ∷ xs) h = (along n x h.0, shifted P Q (n + 1) along xs h.1)

-- an answer to the text in this place
abbrev IsAnswerAt : Options → List (Vec ℕ Global) → ℕ → Status × Vec ℕ Global → Type 0
IsAnswerAt o texts n a = IfSome (slice_get texts n) (λ t. ProvePrints o t.items a.0 a.1.items)

in_places : (o : Options) (texts : List (Vec ℕ Global)) (answers : List (Status × Vec ℕ Global))
    → length answers ≡ length texts → AreResults (IsAnswerAt o texts) 0 answers
    → AreAnswers o texts answers
in_places o [] [] e h = tt
in_places o [] (a ∷ answers) e h = absurd (omega (arith, e))
in_places o (t ∷ texts) [] e h = absurd (omega (arith, e))
in_places o (t ∷ texts) (a ∷ answers) e h = (
  h.0,
  in_places o texts answers (omega (arith, e))
      (shifted (IsAnswerAt o (t ∷ texts)) (IsAnswerAt o texts) 0
      (λ k x p. subst (λ n. IsAnswerAt o (t ∷ texts) n x) (add-one k) p) answers h.1),
)

-- the answers of jobs, as many as there are texts
pub placed : {E : Type 0} (o : Options) (texts : List (Vec ℕ Global))
    (result : Result (Vec (Status × Vec ℕ Global) Global) E) (count : ℕ) → count ≡ length texts
    → IfOk result (λ v. vec_len v ≡ count)
    → IfOk result (λ v. AreResults (IsAnswerAt o texts) 0 v.items)
    → IfOk result (λ v. AreAnswers o texts v.items)
placed o texts (Ok v) count e many results =
    in_places o texts v.items (omega (arith, v.ok.0, many, e)) results
placed o texts (Err x) count e many results = tt
