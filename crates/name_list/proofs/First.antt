-- The first line of a list, and those behind it.
use Rattle.std.proofs.Common.{◌≡◌, ◌≤◌, ◌<◌, ◌+◌, ◌==◌, ℕ, Bool, true, false, List, [], ◌∷◌, ◌++◌}
use Rattle.std.proofs.Common.{length, take, All, Option, Some, None, refl, sym, ap, ◌∙◌, arith}
use Rattle.std.proofs.Common.{get_or, length-drop, ⊎_elim, ◌-◌, append_assoc, append-nil}
use Rattle.std.specs.Prelude.{not, ◌&&◌, ◌||◌, nat_lt, if◌then◌else◌}
use Rattle.std.proofs.lemmas.Bool.{cases_lt}
use Rattle.std.proofs.lemmas.List.{take_all, drop_all, length-take}
use Rattle.std.specs.List.{slice_split, position_or_len, before_first, after_first}
use Rattle.std.proofs.lemmas.List.Splits.{slice_split_first, slice_split_none, length-slice_split}
use Rattle.std.proofs.lemmas.List.Sums.{position_or_len_is, fails_before_first}
use Rattle.std.proofs.lemmas.List.Sums.{prefix_len-le-length}
use Rattle.name_list.specs.declared.fault.ListFault.{ListFault}
use Rattle.name_list.specs.declared.fault.ListKind.TheVariants as kind
use Rattle.name_list.specs.Order.{earlier, number}
use Rattle.name_list.specs.Lists.{is_feed, ended, lines_of, fault, line_fault, empty_fault}
use Rattle.name_list.specs.Lists.{long_fault, plain_fault}

-- ---- what is ended

some_part : (text : List ℕ) → 0 < length (slice_split is_feed text)
some_part text = let e = length-slice_split is_feed text in omega (arith, e)

ended_more : (line : List ℕ) (parts : List (List ℕ))
    → 0 < length parts → ended (line ∷ parts) ≡ line ∷ ended parts
ended_more [] [] h = absurd (omega (arith, h))
ended_more [] (p ∷ parts) h = refl
ended_more (b ∷ line) [] h = absurd (omega (arith, h))
ended_more (b ∷ line) (p ∷ parts) h = refl

ended_one : (line : List ℕ) → 0 < length line → ended (line ∷ []) ≡ line ∷ []
ended_one [] h = absurd (omega (arith, h))
ended_one (b ∷ line) h = refl

-- the lines where there is a line feed
pub first_line : (text : List ℕ) → position_or_len is_feed text < length text
    → lines_of text ≡ before_first is_feed text ∷ lines_of (after_first is_feed text)
first_line text h = ap ended (slice_split_first is_feed text 0 h) ∙ ended_more (before_first is_feed
    text) (slice_split is_feed (after_first is_feed text)) (some_part (after_first is_feed text))

none_passes : (text : List ℕ) → length text ≤ position_or_len is_feed text
    → All (λ b. is_feed b ≡ false) text
none_passes text h = λ k d below. fails_before_first is_feed text k d (omega (arith, h, below))

-- and where there is none
pub only_line : (text : List ℕ)
    → length text ≤ position_or_len is_feed text → 0 < length text → lines_of text ≡ text ∷ []
only_line text h some = ap ended
    (slice_split_none is_feed text (none_passes text h)) ∙ ended_one text some

pos_short : (text : List ℕ) → position_or_len is_feed text ≤ length text
pos_short text = prefix_len-le-length (λ b. not (is_feed b)) text

-- in both cases
pub lines_cons : (text : List ℕ) → 0 < length text
    → lines_of text ≡ take (position_or_len is_feed text) text ∷ lines_of (after_first is_feed text)
lines_cons text some = ⊎_elim
    (λ l. first_line text l)
    (λ g.
    let whole : take (position_or_len is_feed text) text ≡ text =
    take_all (position_or_len is_feed text) text g in
    let none : after_first is_feed text ≡ [] =
    drop_all (position_or_len is_feed text + 1) text (omega (arith, g)) in
    only_line text g some ∙ ap (λ line. line ∷ []) (sym whole)
    ∙ ap (λ later. take (position_or_len is_feed text) text ∷ lines_of later) (sym none))
    (cases_lt (position_or_len is_feed text) (length text))

pub line_length : (text : List ℕ)
    → length (take (position_or_len is_feed text) text) ≡ position_or_len is_feed text
line_length text = let e = length-take (position_or_len is_feed text) text in
    let l = pos_short text in omega (arith, e, l)

-- ---- the fault of a line

with_line : (k at : ℕ) (line : List ℕ) (lines : List (List ℕ)) → 0 < length line
    → k < 64 → line_fault k at (line ∷ lines) ≡ line_fault (k + 1) (at + (length line + 1)) lines
with_line k at [] lines h l = absurd (omega (arith, h))
with_line k at (b ∷ line) lines h l = let e : (k == 64) ≡ false = grind (arith, l) in rw e refl

no_limit : (b : Bool) (f : ListFault) (o : Option ListFault)
    → (if b then Some f else o) ≡ None → (b ≡ false) × (o ≡ None)
no_limit true f o e = absurd (cc e)
no_limit false f o e = (refl, e)

not_all : (k : ℕ) → k ≤ 64 → (k == 64) ≡ false → k + 1 ≤ 64
not_all k l e = grind (arith, l, e)

-- fewer than 65 lines where none is at fault
pub few_lines : (k at : ℕ) (lines : List (List ℕ))
    → k ≤ 64 → line_fault k at lines ≡ None → k + length lines ≤ 64
few_lines k at [] h e = omega (arith, h)
few_lines k at ([] ∷ lines) h e = absurd (cc e)
few_lines k at ((b ∷ line) ∷ lines) h e =
    let n = no_limit (k == 64) _ _ e in
    let r = few_lines (k + 1) (at + (length (b ∷ line) + 1)) lines
    (not_all k h n.0) n.1 in omega (arith, r)

-- ---- one line, by where its line feed stands

pub empty_line : (text : List ℕ) (k at n : ℕ) → n ≡ position_or_len is_feed text
    → n ≡ 0 → 0 < length text → line_fault k at (lines_of text) ≡ Some (fault kind.EmptyName at)
empty_line text k at n is none some =
    ap (line_fault k at) (lines_cons text some) ∙ ap
    (λ m. line_fault k at (take m text ∷ lines_of (after_first is_feed text))) (sym is ∙ none)

last_line : (k at : ℕ) (line : List ℕ) (lines : List (List ℕ))
    → 0 < length line → k ≡ 64 → line_fault k at (line ∷ lines) ≡ Some (fault kind.Limit at)
last_line k at [] lines h e = absurd (omega (arith, h))
last_line k at (b ∷ line) lines h e = let q : (k == 64) ≡ true = grind (arith, e) in rw q refl

pub one_too_many : (text : List ℕ) (k at n : ℕ) → n ≡ position_or_len is_feed text → ¬ (n ≡ 0)
    → 0 < length text → k ≡ 64 → line_fault k at (lines_of text) ≡ Some (fault kind.Limit at)
one_too_many text k at n is there some e =
    let l = line_length text in
    ap (line_fault k at) (lines_cons text some) ∙ last_line k at _ _ (omega (arith, l, is, there)) e

pub next_line : (text later : List ℕ) (k at n : ℕ) → n ≡ position_or_len is_feed text
    → ¬ (n ≡ 0) → 0 < length text → k < 64 → later ≡ after_first is_feed text
    → line_fault k at (lines_of text) ≡ line_fault (k + 1) (at + (n + 1)) (lines_of later)
next_line text later k at n is there some few e =
    let l = line_length text in
    ap (line_fault k at) (lines_cons text some)
    ∙ with_line k at _ _ (omega (arith, l, is, there)) few
    ∙ ap (λ m. line_fault (k + 1) (at + (m + 1)) (lines_of (after_first is_feed text))) (l ∙ sym is)
    ∙ ap (λ rest. line_fault (k + 1) (at + (n + 1)) (lines_of rest)) (sym e)

pub next_short : (text later : List ℕ) (n : ℕ) → n ≡ position_or_len is_feed text
    → later ≡ after_first is_feed text → length later ≡ length text - (n + 1)
next_short text later n is e = ap (λ (xs : List ℕ). length xs) e
    ∙ length-drop (position_or_len is_feed text + 1) text ∙ ap (λ m. length text - (m + 1)) (sym is)

-- ---- where the first line feed stands

pub stops_at : (text : List ℕ) (i : ℕ) → i < length text → ((k : ℕ)
    → k < i → get_or text k 0 ≡ 10 → ⊥) → get_or text i 0 ≡ 10 → i ≡ position_or_len is_feed text
stops_at text i below before here = sym (position_or_len_is is_feed text i 0 (omega (arith, below))
    (λ k h. differs (get_or text k 0) (before k h)) (λ l. equals (get_or text i 0) here)) where
      differs : (b : ℕ) → (b ≡ 10 → ⊥) → (b == 10) ≡ false
      differs b h = grind (arith, h)

      equals : (b : ℕ) → b ≡ 10 → (b == 10) ≡ true
      equals b h = grind (arith, h)

pub stops_behind : (text : List ℕ) (i : ℕ) → length text ≤ i
    → ((k : ℕ) → k < i → get_or text k 0 ≡ 10 → ⊥) → length text ≡ position_or_len is_feed text
stops_behind text i behind before =
    sym (position_or_len_is is_feed text (length text) 0 (omega arith) (λ k h. differs
    (get_or text k 0) (before k (omega (arith, h, behind)))) (λ l. absurd (omega (arith, l)))) where
      differs : (b : ℕ) → (b ≡ 10 → ⊥) → (b == 10) ≡ false
      differs b h = grind (arith, h)

-- ---- no fault

pub earlier_none : (a b : Option ListFault) → None ≡ earlier a b → (a ≡ None) × (b ≡ None)
earlier_none None b e = (refl, sym e)
earlier_none (Some f) None e = absurd (cc e)
earlier_none (Some f) (Some g) e =
    neither (nat_lt g.at f.at || ((g.at == f.at) && nat_lt (number g.kind) (number f.kind))) e where
      neither : (c : Bool) → None ≡ (if c then Some g else Some f)
          → (Some f ≡ None) × (Some g ≡ None)
      neither true e = absurd (cc e)
      neither false e = absurd (cc e)

has_bytes : (text : List ℕ) → empty_fault text ≡ None → 0 < length text
has_bytes [] e = absurd (cc e)
has_bytes (b ∷ text) e = omega arith

pub few_names : (text : List ℕ)
    → None ≡ plain_fault text
    → (1 ≤ length (lines_of text)) × (length (lines_of text) ≤ 64)
few_names text e =
    let a = earlier_none (empty_fault text) _ e in
    let b = earlier_none (line_fault 0 0 (lines_of text)) (long_fault text) (sym a.1) in
    let n = few_lines 0 0 (lines_of text) (omega arith) b.0 in
    let c = ap (λ (ls : List (List ℕ)). length ls) (lines_cons text (has_bytes text a.0)) in
    (omega (arith, c), omega (arith, n))

-- ---- names

pub name_more : (names : List (List ℕ)) (rest name later text : List ℕ)
    → names ++ lines_of rest ≡ lines_of text → name ≡ before_first is_feed rest
    → later ≡ after_first is_feed rest → position_or_len is_feed rest < length rest
    → (names ++ name ∷ []) ++ lines_of later ≡ lines_of text
name_more names rest name later text e n l below =
    append_assoc names (name ∷ []) (lines_of later)
    ∙ ap (λ ls. names ++ ls) (ap (λ x. x ∷ lines_of later) n
    ∙ ap (λ x. before_first is_feed rest ∷ lines_of x) l ∙ sym (first_line rest below)) ∙ e

pub last_name : (names : List (List ℕ)) (rest text : List ℕ)
    → names ++ lines_of rest ≡ lines_of text → position_or_len is_feed rest ≡ length rest
    → ¬ (length rest ≡ 0) → names ++ rest ∷ [] ≡ lines_of text
last_name names rest text e all some =
    ap (λ ls. names ++ ls) (sym (only_line rest (omega (arith, all)) (omega (arith, some)))) ∙ e

pub no_last : (names : List (List ℕ)) (rest text : List ℕ)
    → names ++ lines_of rest ≡ lines_of text → length rest ≡ 0 → names ≡ lines_of text
no_last names [] text e none = sym (append-nil names) ∙ e
no_last names (b ∷ rest) text e none = absurd (omega (arith, none))
