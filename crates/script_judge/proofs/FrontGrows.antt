-- Nodes never go while definitions and a formula are read.
use Rattle.std.proofs.Common.{◌≡◌, ℕ, ◌<◌, ◌≤◌, List, [], ◌∷◌, length, get_or, Bool, true, false}
use Rattle.std.proofs.Common.{if◌then◌else◌, ap, ◌∙◌, arith, le_refl, le_trans}
use Rattle.script_words.specs.Words.{Word}
use Rattle.script_shape.specs.declared.due.Due.{Due}
use Rattle.script_shape.specs.Roles.{Leaf, leaves_of}
use Rattle.script_nodes.specs.Defining.{opens_formula}
use Rattle.script_nodes.specs.Growth.{DefiningGrows}
use Rattle.script_claims.specs.Reads.{State, read_claim, ClaimsGrow}
use Rattle.script_judge.specs.Front.{Front, defining, claiming, ended, front_closed}
use Rattle.script_judge.specs.Front.{closes_formula, front_after, read_front, front_nodes}

abbrev pub count : Front → ℕ
count f = length (front_nodes f)

either : (n : ℕ) (b : Bool) (x y : Front) → n ≤ count x → n ≤ count y
    → n ≤ count (if b then x else y)
either n true x y p q = p
either n false x y p q = q

-- the nodes behind a word of the formula, which may close it
pub formula_past : (r : Due) (w : Word) (st : State)
    → 1024 < length (read_claim r w st).reading.known.nodes
    → 1024 < count (front_after r w (claiming st))
unfolding front_after
formula_past r w st h = by_test (closes_formula r) (read_claim r w st) h
  where
    by_test : (b : Bool) (x : State) → 1024 < length x.reading.known.nodes
        → 1024 < count (if b then front_closed x else claiming x)
    by_test true x h = h
    by_test false x h = h

module _ (definitions : DefiningGrows) (formulas : ClaimsGrow) where
  word_grows : (r : Due) (w : Word) (f : Front) → count f ≤ count (front_after r w f)
  unfolding front_after
  word_grows r w (defining p) =
      either _ (opens_formula r w) _ _ (le_refl (length p.reading.known.nodes)) (definitions r w p)
  word_grows r w (claiming st) = either _ (closes_formula r) _ _ (formulas r w st) (formulas r w st)
  word_grows r w (ended x sides) = le_refl (length x.known.nodes)

  words_grow : (ls : List Leaf) (f : Front) → count f ≤ count (read_front ls f)
  unfolding read_front
  words_grow [] f = le_refl (count f)
  words_grow (l ∷ ls) f =
      le_trans (word_grows l.role l.word f) (words_grow ls (front_after l.role l.word f))

  -- a list that is full at the first of some words
  pub word_past : (rs : List Due) (ws behind : List Word) (r : Due) (w : Word) (f whole : Front)
      → 1 ≤ length rs → ws ≡ w ∷ behind
      → whole ≡ read_front (leaves_of rs ws) f
      → 1024 < count (front_after (get_or rs 0 r) w f) → 1024 < count whole
  unfolding read_front
  word_past [] ws behind r w f whole h k e p = absurd (omega arith)
  word_past (x ∷ rs) ws behind r w f whole h k e p =
      let g = words_grow (leaves_of rs behind) (front_after x w f) in
      let same : whole ≡ read_front (leaves_of rs behind) (front_after x w f) =
      e ∙ ap (λ l. read_front (leaves_of (x ∷ rs) l) f) k in
      omega (arith, ap count same)
