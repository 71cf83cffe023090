-- What one more item, conjunction or part makes of the marks.
use Rattle.std.specs.Prelude.{◌≡◌, ℕ, ◌<◌, ◌≤◌, List, [], ◌∷◌, ◌++◌, length}
use Rattle.std.specs.List.{AllByRecursion}
use Rattle.std.proofs.Common.{ap, sym, ◌∙◌, arith, subst}
use Rattle.std.proofs.lemmas.List.{length-append}
use Rattle.script_cases.specs.Parts.{Parts, with_item, behind_or, behind_arrow}
use Rattle.script_cases.specs.Marks.{pieces, left_over, parts_by, IsFilled, AreMarks}
use Rattle.script_cases.proofs.Pieces.{pieces_more, left_over_more, pieces_end, left_over_end}
use Rattle.script_cases.proofs.Pieces.{length_pieces, pieces_within}
use Rattle.script_cases.proofs.Lists.{all_joined, all_as}

module _ {X : Type 0} (items : List X) (ends parts : List ℕ) (m : AreMarks items ends parts) where
  abbrev of_pieces : List X → List X → List (List X) → Parts X
  of_pieces xs last cs =
      record { items = xs; before = pieces 0 cs parts; ended = left_over 0 cs parts; last = last }

  -- ---- an item
  same_pieces : (x : X) → pieces 0 (items ++ (x ∷ [])) ends ≡ pieces 0 items ends
  same_pieces x = pieces_more 0 items (x ∷ []) ends m.ends_within

  pub item_marks : (x : X) → AreMarks (items ++ (x ∷ [])) ends parts
  item_marks x = record {
    ends_within =
        all_as _ _ (λ e h. omega (h, length-append items (x ∷ []), arith)) ends m.ends_within;
    parts_within = m.parts_within;
    filled =
        subst (λ cs. AllByRecursion IsFilled (pieces 0 cs parts)) (sym (same_pieces x)) m.filled;
  }

  pub item_parts : (x : X)
      → parts_by (items ++ (x ∷ [])) ends parts ≡ with_item (parts_by items ends parts) x
  item_parts x =
      ap (of_pieces (items ++ (x ∷ [])) (left_over 0 (items ++ (x ∷ [])) ends)) (same_pieces x)
      ∙ ap (λ l. of_pieces (items ++ (x ∷ [])) l (pieces 0 items ends))
      (left_over_more 0 items (x ∷ []) ends (omega arith) m.ends_within)

  -- ---- the end of a conjunction
  abbrev one_more : List ℕ
  one_more = ends ++ (length items ∷ [])

  abbrev old : List (List X)
  old = pieces 0 items ends

  abbrev last : List X
  last = left_over 0 items ends

  within : AllByRecursion (λ e. e ≤ length old) parts
  within = pieces_within items ends parts m.parts_within

  same_before : pieces 0 (pieces 0 items one_more) parts ≡ pieces 0 old parts
  same_before = ap (λ cs. pieces 0 cs parts) (pieces_end 0 items ends)
      ∙ pieces_more 0 old (last ∷ []) parts within

  more_ended : left_over 0 (pieces 0 items one_more) parts ≡ left_over 0 old parts ++ (last ∷ [])
  more_ended = ap (λ cs. left_over 0 cs parts) (pieces_end 0 items ends)
      ∙ left_over_more 0 old (last ∷ []) parts (omega arith) within

  pub conjunction_marks : AreMarks items one_more parts
  conjunction_marks = record {
    ends_within = all_joined _ ends _ m.ends_within (omega arith, tt);
    parts_within = all_as _ _
        (λ e h. omega (h, length-append ends (length items ∷ []), arith)) parts m.parts_within;
    filled = subst (AllByRecursion IsFilled) (sym same_before) m.filled;
  }

  pub conjunction_parts : parts_by items one_more parts ≡ behind_or (parts_by items ends parts)
  conjunction_parts = λ i. record {
    items = items;
    before = same_before i;
    ended = more_ended i;
    last = left_over_end 0 items ends i;
  }

module _ {X : Type 0} (items : List X) (ends parts : List ℕ) (m : AreMarks items ends parts) where
  -- ---- the end of a part, whose conjunctions have ended
  abbrev all : List (List X)
  all = pieces 0 items ends

  more_before : pieces 0 all (parts ++ (length ends ∷ []))
      ≡ pieces 0 all parts ++ (left_over 0 all parts ∷ [])
  more_before = ap (λ n. pieces 0 all (parts ++ (n ∷ []))) (sym (length_pieces 0 items ends))
      ∙ pieces_end 0 all parts

  nothing_ended : left_over 0 all (parts ++ (length ends ∷ [])) ≡ []
  nothing_ended = ap (λ n. left_over 0 all (parts ++ (n ∷ []))) (sym (length_pieces 0 items ends))
      ∙ left_over_end 0 all parts

  pub part_marks : 0 < length (left_over 0 all parts)
      → AreMarks items ends (parts ++ (length ends ∷ []))
  part_marks h = record {
    ends_within = m.ends_within;
    parts_within = all_joined _ parts _ m.parts_within (omega arith, tt);
    filled = subst (AllByRecursion IsFilled) (sym more_before)
        (all_joined IsFilled (pieces 0 all parts) _ m.filled (h, tt));
  }

  pub part_parts : (p : Parts X) → parts_by items ends parts ≡ behind_or p
      → parts_by items ends (parts ++ (length ends ∷ [])) ≡ behind_arrow p
  part_parts p e =
      (λ i. record {
        items = items;
        before = more_before i;
        ended = nothing_ended i;
        last = left_over 0 items ends;
      })
      ∙ ap (λ (q : Parts X).
      record { items = q.items; before = q.before ++ (q.ended ∷ []); ended = []; last = q.last }) e
