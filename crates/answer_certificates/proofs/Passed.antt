-- Words that the judge lets pass.
use Rattle.std.specs.Prelude.{◌≡◌, ℕ, ◌+◌, ◌≤◌, nat_lt, List, ◌∷◌, length, Option, None, Bool, true}
use Rattle.std.specs.Prelude.{false, ◌||◌, take, refl}
use Rattle.std.proofs.Common.{ap, ◌∙◌, subst}
use Rattle.std.proofs.Math.Seq.{take-length}
use Rattle.std.proofs.lemmas.Bool.{ltb-false, or_parts}
use Rattle.script_words.specs.Lex.{LexesOnce}
use Rattle.script_words.specs.Words.{Word}
use Rattle.script_words.specs.Named.{words_of}
use Rattle.script_shape.specs.Tree.{script_words, IsScript}
use Rattle.script_shape.specs.Roles.{Leaf, script_leaves, HasRoles, LeavesAreOfTrees}
use Rattle.script_shape.specs.ShapeLaw.{IsShapeOf}
use Rattle.script_judge.specs.declared.refusal.Refusal.{Refusal}
use Rattle.script_judge.specs.declared.counts.Counts.{Counts}
use Rattle.script_judge.specs.declared.fault.Fault.{Fault}
use Rattle.script_judge.specs.Names.{is_some_among, is_used, defines, split_name}
use Rattle.script_judge.specs.Bounds.{is_bad_bound}
use Rattle.script_judge.specs.Said.{Said}
use Rattle.script_judge.specs.Splits.{is_rangeless, is_bad_point}
use Rattle.script_judge.specs.Numbers.{Notes, has_no_pieces, is_past_lsb, is_past_pieces}
use Rattle.script_judge.specs.Judge.{Seen, seen_after, is_on_wrong_side, form_kind}
use Rattle.script_judge.specs.Judge.{form_refusal, limit_kind, limit_refusal, refusal_at, Judged}
use Rattle.script_judge.specs.Judge.{refused, passed, nothing_seen}
use Rattle.script_judge.proofs.JudgeLaws.{fails, both_none}
use Rattle.script_judge.specs.Sides.{has_arrow}
use Rattle.script_judge.specs.Reading.{Reading, IsReadingOf, fault}
use Rattle.script_judge.specs.First.{IsFirstRefusal, unread, read, refusal_of}
use Rattle.script_judge.proofs.FirstLaws.{second_none, none_found}
use Rattle.script_grammar.specs.Spells.{View, Spells}

-- ---- one word

-- the word passes, and so do those behind it
pub record Passed (i : ℕ) (seen : Seen) (l : Leaf) (ls : List Leaf) : Type 0 where
  pub notes : Notes
  pub passes : refusal_at notes seen l.role l.word ls ≡ None
  pub rest : Judged (i + 1) (seen_after notes seen l.role l.word) ls None

found_passed : {i : ℕ} {seen : Seen} {found : Option Fault} (l : Leaf) (ls : List Leaf)
    → Judged i seen (l ∷ ls) found → found ≡ None → Passed i seen l ls
found_passed l ls (refused t r) e = absurd (cc e)
found_passed {i} {seen} l ls (passed {v = v} t r j) e = record {
  notes = v;
  passes = r;
  rest = subst (Judged (i + 1) (seen_after v seen l.role l.word) ls) e j;
}

pub one_passed : (i : ℕ) (seen : Seen) (l : Leaf) (ls : List Leaf)
    → Judged i seen (l ∷ ls) None → Passed i seen l ls
one_passed i seen l ls j = found_passed l ls j refl

-- ---- what isn't refused of it

few_propositions : (opened halved : ℕ) (c : Counts) (lsb pieces : Bool)
    → limit_kind opened halved c lsb pieces ≡ None → c.propositions ≤ 128
few_propositions opened halved c lsb pieces h =
    let nesting = fails (nat_lt 64 opened) _ _ h in
    let definitions = fails (nat_lt 256 c.definitions) _ _ nesting.1 in
    let propositions = fails (nat_lt 128 c.propositions) _ _ definitions.1 in
    ltb-false 128 c.propositions propositions.0

not_defined : (side used bad rangeless defined none point past : Bool)
    → form_kind side used bad rangeless defined none point past ≡ None → defined ≡ false
not_defined side used bad rangeless defined none point past e =
    let a = fails side _ _ e in
    let b = fails used _ _ a.1 in
    let c = fails bad _ _ b.1 in
    let d = fails rangeless _ _ c.1 in
    let f = fails (defined || none || point) _ _ d.1 in
    let g = or_parts (defined || none) point f.0 in
    (or_parts defined none g.0).0

-- there are no more than 128 propositions so far
pub within_limits : (v : Notes) (seen : Seen) (l : Leaf) (ls : List Leaf)
    → refusal_at v seen l.role l.word ls ≡ None
    → (seen_after v seen l.role l.word).counts.propositions ≤ 128
within_limits v seen l ls e =
    let after = seen_after v seen l.role l.word in
    let limits = both_none (form_refusal v seen l.role l.word (has_arrow ls) ls)
    (limit_refusal after l.role l.word) e in
    few_propositions (length after.opened) (length after.names.halved) after.counts
    (is_past_lsb l.role l.word) (is_past_pieces l.role l.word) limits.1

-- a name that is split has no definition
pub split_plain : (v : Notes) (seen : Seen) (l : Leaf) (ls : List Leaf)
    → refusal_at v seen l.role l.word ls ≡ None
    → is_some_among seen.names.defined (split_name l.role l.word) ≡ false
split_plain v seen l ls e =
    let named = split_name l.role l.word in
    let form = both_none (form_refusal v seen l.role l.word (has_arrow ls) ls)
    (limit_refusal (seen_after v seen l.role l.word) l.role l.word) e in
    not_defined (is_on_wrong_side l.role l.word (has_arrow ls) ls)
    (is_used seen.names (defines l.role l.word) ls) (is_bad_bound seen.bounds v.number)
    (is_rangeless seen.said (is_some_among seen.names.defined named) named)
    (is_some_among seen.names.defined named) (has_no_pieces l.role l.word)
    (is_bad_point seen.splits (nat_lt 0 seen.counts.pieces) v.number) v.past form.0

-- ---- the words of a text that spells a script

-- the text is read, and each of its words passes
record IsRead (text : List ℕ) : Type 0 where
  reading : Reading
  is : IsReadingOf text reading
  said : Option Said
  judged : Judged 0 (nothing_seen said) reading.leaves None

text_read : (text : List ℕ) (o : Option Refusal) → IsFirstRefusal text o → o ≡ None → IsRead text
text_read text o (unread h) e = absurd (cc e)
text_read text o (read {r = r} {said = said} {found = found} k h q j) e =
    record {
      reading = r;
      is = h;
      said = said;
      judged = subst (Judged 0 (nothing_seen said) r.leaves)
          (none_found r found (second_none (fault (length text) r) (refusal_of r found) e)) j;
    }

-- the words of a script are read whole
whole_taken : (ws : List Word) (n : ℕ) (b : Bool) → IsShapeOf ws n b → IsScript ws → n ≡ length ws
whole_taken ws n true s i = (s.whole refl).0
whole_taken ws n false s i = absurd (s.not_whole refl i)

pub spelled_passes : LexesOnce → LeavesAreOfTrees → (text : List ℕ) (s : View) (p : Spells text s)
    → (said : Option Said) × Judged 0 (nothing_seen said) (script_leaves p.tree) None
spelled_passes lexes are text s p =
    let found = text_read text None p.accepted refl in
    let r = found.reading in
    let h = found.is in
    let same = lexes text s.tokens r.tokens None r.bad p.lexed h.lexed in
    let words : script_words p.tree ≡ r.words =
    p.words ∙ ap (words_of text) same.tokens ∙ h.words in
    let all : take r.taken r.words ≡ r.words = ap (λ n. take n r.words)
    (whole_taken r.words r.taken r.whole h.shape (p.tree, words)) ∙ take-length r.words in
    let leaves : r.leaves ≡ script_leaves p.tree =
    are p.tree r.words r.leaves words (subst (λ ws. HasRoles ws r.leaves) all h.roles) in
    (found.said, subst (λ ls. Judged 0 (nothing_seen found.said) ls None) leaves found.judged)
