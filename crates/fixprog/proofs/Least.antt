-- The first of some faults.
use Rattle.std.proofs.Common.{◌≡◌, ℕ, ◌==◌, ◌&&◌, ◌||◌, nat_lt, Bool, true, false, List, [], ◌∷◌}
use Rattle.std.proofs.Common.{◌++◌, Option, Some, None, refl, sym, subst, arith, append-nil}
use Rattle.std.proofs.Common.{append_assoc, if◌then◌else◌}
use Rattle.std.specs.List.{All, Contains}
use Rattle.std.proofs.lemmas.List.Elements.{All-nil, All-push, Contains-push, Contains-append_left}
use Rattle.fixprog.specs.declared.fault.ProgFault.{ProgFault}
use Rattle.fixprog.specs.First.{number, is_before}
use Rattle.fixprog.specs.Finding.{earlier, first_from}
use Rattle.fixprog.proofs.Common.{all_as}

lower_than : (a b c d e f : ℕ) → (nat_lt a c || (a == c && nat_lt b d)) ≡ true
    → (nat_lt c e || (c == e && nat_lt d f)) ≡ true → (nat_lt a e || (a == e && nat_lt b f)) ≡ true
lower_than a b c d e f h k = grind arith

not_itself : (a b : ℕ) → (nat_lt a a || (a == a && nat_lt b b)) ≡ false
not_itself a b = grind arith

before_trans : (f g h : ProgFault) → is_before f g ≡ true → is_before g h ≡ true → is_before f h
    ≡ true
before_trans f g h p q = lower_than f.at (number f.kind) g.at (number g.kind) h.at (number h.kind)
    p q

-- It is among them, and none of them is before it.
pub record IsLeast (fs : List ProgFault) (f : ProgFault) : Type 0 where
  pub among : Contains fs f
  pub none_before : All (λ g. is_before g f ≡ false) fs

-- of these it is the first, and there is none if they are none
abbrev pub IsFirstOf : List ProgFault → Option ProgFault → Type 0
IsFirstOf fs None = fs ≡ []
IsFirstOf fs (Some f) = IsLeast fs f

-- what isn't before one isn't before an earlier one
still : (f g first : ProgFault) → is_before f first ≡ true → is_before g first ≡ false
    → is_before g f ≡ false
still f g first h k = by_case (is_before g f) refl
  where
    by_case : (b : Bool) → is_before g f ≡ b → b ≡ false
    by_case true e = absurd (let t = before_trans g f first e h in cc)
    by_case false e = refl

one_more : (fs : List ProgFault) (o : Option ProgFault) (f : ProgFault) → IsFirstOf fs o
    → IsFirstOf (fs ++ (f ∷ [])) (earlier o f)
one_more fs None f h =
    subst (λ l. IsLeast (l ++ (f ∷ [])) f) (sym h)
    (record {
      among = Contains-push [] f;
      none_before =
          All-push (λ g. is_before g f ≡ false) [] f (All-nil (λ g. is_before g f ≡ false))
          (not_itself f.at (number f.kind));
    })
one_more fs (Some first) f h = by_test (is_before f first) refl
  where
    by_test : (b : Bool) → is_before f first ≡ b → IsFirstOf (fs ++ (f ∷ [])) (if b then Some f
        else Some first)
    by_test true e = record {
      among = Contains-push fs f;
      none_before = All-push (λ g. is_before g f ≡ false) fs f
          (all_as (λ g. is_before g first ≡ false) (λ g. is_before g f ≡ false) fs
          (λ g k. still f g first e k) h.none_before) (not_itself f.at (number f.kind));
    }
    by_test false e = record {
      among = Contains-append_left fs (f ∷ []) first h.among;
      none_before = All-push (λ g. is_before g first ≡ false) fs f h.none_before e;
    }

all_more : (gs fs : List ProgFault) (o : Option ProgFault) → IsFirstOf fs o
    → IsFirstOf (fs ++ gs) (first_from o gs)
all_more [] fs o h = subst (λ l. IsFirstOf l o) (sym (append-nil fs)) h
all_more (g ∷ gs) fs o h = subst (λ l. IsFirstOf l (first_from (earlier o g) gs))
    (append_assoc fs (g ∷ []) gs) (all_more gs (fs ++ (g ∷ [])) (earlier o g) (one_more fs o g h))

pub first_of : (fs : List ProgFault) → IsFirstOf fs (first_from None fs)
first_of fs = all_more fs [] None refl

pub first_from-append : (o : Option ProgFault) (fs gs : List ProgFault) → first_from o (fs ++ gs)
    ≡ first_from (first_from o fs) gs
first_from-append o [] gs = refl
first_from-append o (f ∷ fs) gs = first_from-append (earlier o f) fs gs
