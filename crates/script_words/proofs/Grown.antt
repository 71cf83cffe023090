-- A set of names that grows by a name.
use Rattle.std.proofs.Common.{◌≡◌, ℕ, Bool, true, false, ◌||◌, cond, List, ◌∷◌, refl, ap, ◌∙◌}
use Rattle.std.specs.Str.{bytes_eq}
use Rattle.std.specs.BTreeSet.{BTreeSet, contains, Updates}
use Rattle.std.specs.Borrow.{Bor}
use Rattle.std.proofs.lemmas.Map.Text.{is_eq-slice_cmp}
use Rattle.script_words.specs.Named.{text_cmp, HasNames}

-- a name that is there, or was before
here_or_before : (b old : Bool) → cond b true old ≡ (b || old)
here_or_before true old = refl
here_or_before false old = refl

-- one name more
pub one_more : (set new : BTreeSet (Bor (List ℕ))) (k : Bor (List ℕ))
    → Updates text_cmp set new k true → (names : List (List ℕ)) → HasNames set names
    → HasNames new (k.now ∷ names)
one_more set new k updates names has q =
    updates.0 q ∙ ap (λ b. cond b true (contains text_cmp set q)) (is_eq-slice_cmp k.now q.now)
    ∙ here_or_before (bytes_eq k.now q.now) (contains text_cmp set q)
    ∙ ap (λ b. bytes_eq k.now q.now || b) (has q)
