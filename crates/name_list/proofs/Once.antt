-- A list has one first fault, or none.
use Rattle.std.proofs.Common.{◌≡◌, ℕ, List, length, Option, Some, None, refl, sym, ap, subst, ◌∙◌}
use Rattle.std.specs.Str.{IsUtf8, IsValidUpTo}
use Rattle.std.proofs.Math.Seq.{take-length}
use Rattle.std.proofs.lemmas.Str.{utf8_valid_len-IsValidUpTo}
use Rattle.name_list.specs.Order.{earlier}
use Rattle.name_list.specs.Lists.{IsIllAt, ill_fault, plain_fault, FaultsAreOne}

not_both : (text : List ℕ) (m : ℕ) → IsUtf8 text → IsValidUpTo text m → ⊥
not_both text m u v = v.longest (length text) v.short (subst IsUtf8 (sym (take-length text)) u)

one_place : (text : List ℕ) (a b : Option ℕ) → IsIllAt text a → IsIllAt text b → a ≡ b
one_place text None None u v = refl
one_place text None (Some m) u v = absurd (not_both text m u v)
one_place text (Some m) None u v = absurd (not_both text m v u)
one_place text (Some m) (Some n) u v = ap (λ k. Some k)
    (sym (utf8_valid_len-IsValidUpTo text m u) ∙ utf8_valid_len-IsValidUpTo text n v)

pub faults_are_one : FaultsAreOne
faults_are_one text o other (a, ill, is) (b, ill_too, is_too) =
    is ∙ ap (λ x. earlier (ill_fault x) (plain_fault text)) (one_place text a b ill ill_too)
    ∙ sym is_too
