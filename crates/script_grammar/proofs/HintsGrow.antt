-- Nodes never go while hints are read.
use Rattle.std.proofs.Common.{◌≡◌, ℕ, ◌<◌, ◌≤◌, List, [], ◌∷◌, length, get_or, ap, ◌∙◌, arith}
use Rattle.std.proofs.Common.{le_refl, le_trans}
use Rattle.script_words.specs.Words.{Word}
use Rattle.script_shape.specs.declared.due.Due.{Due}
use Rattle.script_shape.specs.Roles.{Leaf, leaves_of}
use Rattle.script_hints.specs.Reading.{HintReading, read_hint, read_hints}
use Rattle.script_hints.specs.ReadingLaw.{HintsGrow}

abbrev pub count : HintReading → ℕ
count h = length h.reading.known.nodes

-- where no words are left, all are read
pub words_end : (rs : List Due) (ws : List Word) (h whole : HintReading) → ws ≡ []
    → whole ≡ read_hints (leaves_of rs ws) h → whole ≡ h
unfolding read_hints
words_end [] ws h whole k e = e
words_end (x ∷ rs) ws h whole k e = e ∙ ap (λ l. read_hints (leaves_of (x ∷ rs) l) h) k

module _ (hints : HintsGrow) where
  words_grow : (ls : List Leaf) (h : HintReading) → count h ≤ count (read_hints ls h)
  unfolding read_hints
  words_grow [] h = le_refl (count h)
  words_grow (l ∷ ls) h =
      le_trans (hints l.role l.word h) (words_grow ls (read_hint l.role l.word h))

  -- a list that is full at the first of some words
  pub word_past : (rs : List Due) (ws behind : List Word) (r : Due) (w : Word)
      (h whole : HintReading) → 1 ≤ length rs → ws ≡ w ∷ behind
      → whole ≡ read_hints (leaves_of rs ws) h
      → 1024 < count (read_hint (get_or rs 0 r) w h) → 1024 < count whole
  unfolding read_hints
  word_past [] ws behind r w h whole k p e f = absurd (omega arith)
  word_past (x ∷ rs) ws behind r w h whole k p e f =
      let g = words_grow (leaves_of rs behind) (read_hint x w h) in
      let same : whole ≡ read_hints (leaves_of rs behind) (read_hint x w h) =
      e ∙ ap (λ l. read_hints (leaves_of (x ∷ rs) l) h) p in
      omega (arith, ap count same)
