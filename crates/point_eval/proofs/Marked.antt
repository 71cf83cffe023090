-- The hints that are assumed, by their marks.
use Rattle.std.specs.Prelude.{◌≡◌, ◌⊎◌, ◌&&◌, ◌||◌, ℕ, List, [], ◌∷◌, length, slice_get, Bool, true}
use Rattle.std.specs.Prelude.{false, Some, IsTrue, refl}
use Rattle.std.specs.List.{AllByRecursion, list_all, list_any}
use Rattle.std.proofs.Common.{arith, suc, zero, inl, inr}
use Rattle.fx_model.specs.Expression.{Assignment, value}
use Rattle.fx_model.specs.declared.Node.{Node}
use Rattle.facts.specs.declared.hint.HintMark.{HintMark}
use Rattle.facts.specs.declared.hint.HintMark.TheVariants as mark
use Rattle.script_cases.specs.Cases.{cases}
use Rattle.script_cases.specs.Met.{SomeOf}
use Rattle.script_cases.proofs.MetLaws.{met_in_some_case}
use Rattle.script_claims.specs.Meets.{IsTrueAt}
use Rattle.script_claims.specs.declared.claim.Claim.{Claim}
use Rattle.script_hints.specs.Meets.{MeetsHint}
use Rattle.script_hints.specs.declared.hint.Hint.{Hint}
use Rattle.script_meets.specs.Meets.{IsAssumed}
use Rattle.rewrite_hints.specs.Marks.{IsMarkOf}
use Rattle.point_values.specs.Truth.{claim_holds, marked_holds}
use Rattle.point_values.specs.Told.{ClaimsAreTold, HintsAreTold}
use Rattle.point_values.specs.Evaluation.{pairs}
use Rattle.point_eval.specs.Told.{MeetsIsTold}

and_left : (a b : Bool) → IsTrue (a && b) → IsTrue a
and_left true b h = refl
and_left false b h = absurd (cc)

and_right : (a b : Bool) → IsTrue (a && b) → IsTrue b
and_right true b h = h
and_right false b h = absurd (cc)

and_both : (a b : Bool) → IsTrue a → IsTrue b → IsTrue (a && b)
and_both true b h k = k
and_both false b h k = absurd (cc)

claims_out : (told : ClaimsAreTold) (nodes : List Node) (a : Assignment) (cs : List Claim)
    → IsTrue (list_all (claim_holds (value nodes a)) cs) → AllByRecursion (IsTrueAt nodes a) cs
claims_out told nodes a [] h = tt
claims_out told nodes a (c ∷ cs) h = (
  (told nodes a c).0
      (and_left (claim_holds (value nodes a) c) (list_all (claim_holds (value nodes a)) cs) h),
  claims_out told nodes a cs
      (and_right (claim_holds (value nodes a) c) (list_all (claim_holds (value nodes a)) cs) h),
)

claims_back : (told : ClaimsAreTold) (nodes : List Node) (a : Assignment) (cs : List Claim)
    → AllByRecursion (IsTrueAt nodes a) cs → IsTrue (list_all (claim_holds (value nodes a)) cs)
claims_back told nodes a [] h = refl
claims_back told nodes a (c ∷ cs) h =
    and_both (claim_holds (value nodes a) c) (list_all (claim_holds (value nodes a)) cs)
    ((told nodes a c).1 h.0) (claims_back told nodes a cs h.1)

-- some case has only claims that are true, where the test says so
cases_out : (told : ClaimsAreTold) (nodes : List Node) (a : Assignment) (cs : List (List Claim))
    → IsTrue (list_any (list_all (claim_holds (value nodes a))) cs)
    → SomeOf (AllByRecursion (IsTrueAt nodes a)) cs
cases_out told nodes a [] h = absurd (cc)
cases_out told nodes a (c ∷ cs) h =
    by (list_all (claim_holds (value nodes a)) c) refl (cases_out told nodes a cs) h
  where
    by : (b : Bool) → list_all (claim_holds (value nodes a)) c ≡ b
        → (IsTrue (list_any (list_all (claim_holds (value nodes a))) cs)
        → SomeOf (AllByRecursion (IsTrueAt nodes a)) cs)
        → IsTrue (b || list_any (list_all (claim_holds (value nodes a))) cs)
        → AllByRecursion (IsTrueAt nodes a) c ⊎ SomeOf (AllByRecursion (IsTrueAt nodes a)) cs
    by true e rest t = inl (claims_out told nodes a c e)
    by false e rest t = inr (rest t)

or_left : (a b : Bool) → IsTrue a → IsTrue (a || b)
or_left true b h = refl
or_left false b h = absurd (cc)

or_right : (a b : Bool) → IsTrue b → IsTrue (a || b)
or_right true b h = refl
or_right false b h = h

cases_back : (told : ClaimsAreTold) (nodes : List Node) (a : Assignment) (cs : List (List Claim))
    → SomeOf (AllByRecursion (IsTrueAt nodes a)) cs
    → IsTrue (list_any (list_all (claim_holds (value nodes a))) cs)
cases_back told nodes a [] h = absurd h
cases_back told nodes a (c ∷ cs) (inl h) =
    or_left (list_all (claim_holds (value nodes a)) c)
    (list_any (list_all (claim_holds (value nodes a))) cs) (claims_back told nodes a c h)
cases_back told nodes a (c ∷ cs) (inr h) =
    or_right (list_all (claim_holds (value nodes a)) c)
    (list_any (list_all (claim_holds (value nodes a))) cs) (cases_back told nodes a cs h)

-- one mark for each, by places
Marked : List Node → List Hint → List HintMark → Type 0
Marked nodes hs ms = (k : ℕ) (h : Hint) (m : HintMark) → slice_get hs k ≡ Some h
    → slice_get ms k ≡ Some m → IsMarkOf nodes h m

later : (nodes : List Node) (h : Hint) (m : HintMark) (hs : List Hint) (ms : List HintMark)
    → Marked nodes (h ∷ hs) (m ∷ ms) → Marked nodes hs ms
unfolding Marked
later nodes h m hs ms f k g n p q = f (suc k) g n p q

here : (nodes : List Node) (h : Hint) (m : HintMark) (hs : List Hint) (ms : List HintMark)
    → Marked nodes (h ∷ hs) (m ∷ ms) → IsMarkOf nodes h m
unfolding Marked
here nodes h m hs ms f = f zero h m refl refl

hint_out : (told : HintsAreTold) (nodes : List Node) (a : Assignment) (h : Hint) (m : HintMark)
    → IsMarkOf nodes h m → IsTrue (marked_holds (value nodes a) (h, m)) → IsAssumed nodes h
    → MeetsHint nodes a h
unfolding marked_holds
hint_out told nodes a h mark.Checked i t n = absurd (n i)
hint_out told nodes a h mark.Assumed i t n = (told nodes a h).0 t

hint_back : (told : HintsAreTold) (nodes : List Node) (a : Assignment) (h : Hint) (m : HintMark)
    → IsMarkOf nodes h m → (IsAssumed nodes h → MeetsHint nodes a h)
    → IsTrue (marked_holds (value nodes a) (h, m))
unfolding marked_holds
hint_back told nodes a h mark.Checked i f = refl
hint_back told nodes a h mark.Assumed i f = (told nodes a h).1 (f i)

hints_out : (told : HintsAreTold) (nodes : List Node) (a : Assignment) (hs : List Hint) (ms :
    List HintMark) → length ms ≡ length hs → Marked nodes hs ms
    → IsTrue (list_all (marked_holds (value nodes a)) (pairs hs ms))
    → AllByRecursion (λ h. IsAssumed nodes h → MeetsHint nodes a h) hs
hints_out told nodes a [] ms e f t = tt
hints_out told nodes a (h ∷ hs) [] e f t = absurd (omega arith)
hints_out told nodes a (h ∷ hs) (m ∷ ms) e f t = (
  hint_out told nodes a h m (here nodes h m hs ms f) (and_left (marked_holds (value nodes a) (h, m))
      (list_all (marked_holds (value nodes a)) (pairs hs ms)) t),
  hints_out told nodes a hs ms (omega arith) (later nodes h m hs ms f)
      (and_right (marked_holds (value nodes a) (h, m))
      (list_all (marked_holds (value nodes a)) (pairs hs ms)) t),
)

hints_back : (told : HintsAreTold) (nodes : List Node) (a : Assignment) (hs : List Hint) (ms :
    List HintMark) → length ms ≡ length hs → Marked nodes hs ms
    → AllByRecursion (λ h. IsAssumed nodes h → MeetsHint nodes a h) hs
    → IsTrue (list_all (marked_holds (value nodes a)) (pairs hs ms))
hints_back told nodes a [] ms e f t = refl
hints_back told nodes a (h ∷ hs) [] e f t = absurd (omega arith)
hints_back told nodes a (h ∷ hs) (m ∷ ms) e f t =
    and_both (marked_holds (value nodes a) (h, m))
    (list_all (marked_holds (value nodes a)) (pairs hs ms))
    (hint_back told nodes a h m (here nodes h m hs ms f) t.0)
    (hints_back told nodes a hs ms (omega arith) (later nodes h m hs ms f) t.1)

pub meets_told : ClaimsAreTold → HintsAreTold → MeetsIsTold
unfolding Marked
meets_told claims hints s marks a w =
    let met = met_in_some_case (IsTrueAt s.nodes a) s.parts in
    let some : Bool = list_any (list_all (claim_holds (value s.nodes a))) (cases s.parts) in
    let assumed : Bool =
    list_all (marked_holds (value s.nodes a)) (pairs s.hints.rewrites marks) in (
      (λ t. record {
        hypotheses = met.1 (cases_out claims s.nodes a (cases s.parts) (and_left some assumed t));
        assumed = hints_out hints s.nodes a s.hints.rewrites marks w.count w.each
            (and_right some assumed t);
      }),
      (λ m. and_both some assumed (cases_back claims s.nodes a (cases s.parts) (met.0 m.hypotheses))
          (hints_back hints s.nodes a s.hints.rewrites marks w.count w.each m.assumed)),
    )
