-- A text that spells a point has no fault, and spells one point.
use Rattle.std.specs.Prelude.{◌≡◌, ℕ, zero, suc, ◌+◌, ◌<◌, List, [], ◌∷◌, ◌++◌, length, take, drop}
use Rattle.std.specs.Prelude.{slice_get, Option, Some, None, Bool, refl}
use Rattle.std.proofs.Common.{sym, ap, ◌∙◌, subst, ⊎_elim, arith}
use Rattle.std.proofs.lemmas.Option.{none-some, same_Some, slice_get_within}
use Rattle.std.proofs.lemmas.Bool.{cases_lt}
use Rattle.fx_model.specs.declared.Literal.{Literal}
use Rattle.script_words.specs.Lex.{LexesOnce}
use Rattle.script_words.proofs.Utf8.{no_both}
use Rattle.script_nodes.specs.Known.{Name}
use Rattle.script_nodes.specs.Literals.{ReadsLiterals}
use Rattle.point_values.specs.Rows.{Row}
use Rattle.point_text.specs.declared.fault.PointKind.{PointKind}
use Rattle.point_text.specs.declared.fault.PointFault.{PointFault}
use Rattle.point_text.specs.Points.{Part, name, literal, plus, minus, slash, parts_of, Mark}
use Rattle.point_text.specs.Points.{unmarked, with_plus, with_minus, Entry, entry_parts}
use Rattle.point_text.specs.Points.{entries_parts, Begins, IsDivisorOf, IsRowOf, SpellsPoint}
use Rattle.point_text.specs.PointFaults.{Reading, HasFault, bad_token, unexpected, cut_short}
use Rattle.point_text.specs.PointFaults.{unknown, twice, zero_divisor, literal_limit, missing}
use Rattle.point_text.specs.PointFaults.{IsPointFault, too_long, not_text, first}
use Rattle.point_text.proofs.Parts.{has_name}
use Rattle.point_text.proofs.Clean.{IsClean, AreSound, entries_clean}
use Rattle.point_text.proofs.Starts.{starts}
use Rattle.point_text.proofs.Standing.{length_parts, start_of, no_start_past}

-- ---- entries of a point

pub some_at : {A : Type 0} (xs : List A) (i : ℕ) → i < length xs
    → (x : A) × (slice_get xs i ≡ Some x)
some_at [] i l = absurd (omega arith)
some_at (x ∷ xs) zero l = (x, refl)
some_at (x ∷ xs) (suc i) l = some_at xs i (omega arith)

-- the row of a variable, with its entry
row_of : (variables : List Name) (text : List ℕ) (rows : List Row) (s :
    SpellsPoint variables text rows) (i : ℕ) (v : Name)
    → slice_get variables i ≡ Some v
    → (row : Row) × (k : ℕ) × (e : Entry) × (slice_get s.entries k ≡ Some e) × (e.variable ≡ v)
    × IsRowOf e row
row_of variables text rows s i v h =
    let l = slice_get_within variables i v h in
    let c = s.count in
    let row = some_at rows i (omega arith) in
    let w = s.each i v row.0 h row.1 in
    (row.0, w.0, w.1, w.2, w.3, w.4)

spelled_sound : (variables : List Name) (text : List ℕ) (rows : List Row) (s :
    SpellsPoint variables text rows)
    → AreSound variables s.entries
spelled_sound variables text rows s = record {
  known = s.known;
  once = s.once;
  rows = λ k e h.
      let i = s.known k e h in
      let w = row_of variables text rows s i.0 e.variable i.1 in
      let d : w.2 ≡ e =
      same_Some _ _ (sym w.3 ∙ ap (slice_get s.entries) (s.once w.1 k w.2 e w.3 h w.4) ∙ h) in
      (w.0, subst (λ x. IsRowOf x w.0) d w.5);
}

-- ---- it has no fault

pub front_split : (n : ℕ) (ps : List Part) → (qs : List Part) × (ps ≡ take n ps ++ qs)
front_split zero ps = (ps, refl)
front_split (suc n) [] = ([], refl)
front_split (suc n) (p ∷ ps) = let w = front_split n ps in (w.0, ap (λ x. p ∷ x) w.1)

entries_begin : (n : ℕ) (ps : List Part) (es : List Entry) → ps ≡ entries_parts es
    → Begins (take n ps)
entries_begin n ps es e = let w = front_split n ps in (es, w.0, sym e ∙ w.1)

-- all its tokens are read
all_taken : {text : List ℕ} (r : Reading text) (es : List Entry)
    → parts_of text r.tokens ≡ entries_parts es → r.taken ≡ length r.tokens
all_taken {text = text} r es e =
    let w = r.within in
    ⊎_elim (λ l. absurd (r.ends l (entries_begin (r.taken + 1) (parts_of text r.tokens) es e)))
    (λ l. omega arith)
    (cases_lt r.taken (length r.tokens))

no_fault : {text : List ℕ} (variables : List Name) (r : Reading text) (rows : List Row) (s :
    SpellsPoint variables text rows)
    → r.bad ≡ None → parts_of text r.tokens ≡ entries_parts s.entries
    → IsClean variables (parts_of text r.tokens)
    → r.taken ≡ length r.tokens → (k : PointKind) (at : ℕ) → HasFault variables r k at → ⊥
no_fault variables r rows s b e c all k at (bad_token t f) = none-some _ (sym b ∙ f)
no_fault variables r rows s b e c all k at (unexpected h) =
    no_start_past r.tokens at (ap (slice_get (starts r.tokens)) (sym all) ∙ h)
no_fault variables r rows s b e c all k at (cut_short t f g) = g s.entries e
no_fault variables r rows s b e c all k at (unknown {i = i} {v = v} q n) = let w =
    c.known v (i, q.part) in n w.0 w.1
no_fault variables r rows s b e c all k at (twice {i = i} {j = j} {v = v} q w l) =
    c.once v (i, j, l, q.part, w.part)
no_fault {text = text} variables r rows s b e c all k at
    (zero_divisor {i = i} {digits = d} {l = l} q w h z) =
    let n : i + 1 ≡ suc i = omega arith in
    c.nonzero d l (i, q.part, ap (slice_get (parts_of text r.tokens)) (sym n) ∙ w.part) h z
no_fault variables r rows s b e c all k at (literal_limit {i = i} {digits = d} q u) = let w =
    c.read d (i, q.part) in u w.0 w.1
no_fault {text = text} variables r rows s b e c all k at (missing i {v = v} h f) =
    let w = row_of variables text rows s i v h in
    let stood = has_name s.entries w.1 w.2 w.3 in
    let part : slice_get (parts_of text r.tokens) stood.0 ≡ Some (name v) =
    ap (λ ps. slice_get ps stood.0) e ∙ stood.1 ∙ ap (λ x. Some (name x)) w.4 in
    let a = start_of text r.tokens stood.0 (name v) part in
    let l = slice_get_within (parts_of text r.tokens) stood.0 (name v) part in
    let n = length_parts text r.tokens in
    f stood.0 a.0 (record { read = omega arith; part = part; start = a.1 })

pub spelled_faultless : ReadsLiterals → LexesOnce
    → (variables : List Name) (text : List ℕ) (rows : List Row) (f : PointFault)
    → SpellsPoint variables text rows → IsPointFault variables text f → ⊥
spelled_faultless law once variables text rows f s (too_long l) = let m = s.short.0 in omega arith
spelled_faultless law once variables text rows f s (not_text {at = a} l v) =
    no_both text a v s.short.1
spelled_faultless law once variables text rows f s (first {k = k} {at = a} short r has least) =
    let same = once text r.tokens s.tokens r.bad None r.lexed s.lexed in
    let e : parts_of text r.tokens ≡ entries_parts s.entries = ap (parts_of text) same.tokens
    ∙ s.parts in
    let clean : IsClean variables (parts_of text r.tokens) =
    subst (IsClean variables) (sym e)
    (entries_clean law variables s.entries (spelled_sound variables text rows s)) in
    no_fault variables r rows s same.bad e clean (all_taken r s.entries e) k a has

-- ---- it spells one point

-- what an entry is that begins a list of tokens
get_name : List Part → List ℕ
get_name (name v ∷ ps) = v
get_name ps = []

get_mark : List Part → Mark
get_mark (plus ∷ ps) = with_plus
get_mark (minus ∷ ps) = with_minus
get_mark ps = unmarked

behind_mark : List Part → List Part
behind_mark (plus ∷ ps) = ps
behind_mark (minus ∷ ps) = ps
behind_mark ps = ps

get_number : List Part → List ℕ
get_number (literal n ∷ ps) = n
get_number ps = []

get_divisor : List Part → Option (List ℕ)
get_divisor (slash ∷ (literal d ∷ ps)) = Some d
get_divisor ps = None

entry_in : List Part → Entry
entry_in ps = record {
  variable = get_name ps;
  mark = get_mark (drop 2 ps);
  number = get_number (behind_mark (drop 2 ps));
  divisor = get_divisor (drop 1 (behind_mark (drop 2 ps)));
}

entry_back : (v : List ℕ) (m : Mark) (n : List ℕ) (d : Option (List ℕ)) (ps : List Part)
    → let e : Entry = record { variable = v; mark = m; number = n; divisor = d } in
    entry_in (entry_parts e ++ ps) ≡ e
unfolding entry_in get_name get_mark behind_mark get_number get_divisor
entry_back v unmarked n None ps = refl
entry_back v unmarked n (Some d) ps = refl
entry_back v with_plus n None ps = refl
entry_back v with_plus n (Some d) ps = refl
entry_back v with_minus n None ps = refl
entry_back v with_minus n (Some d) ps = refl

tail_of : List Part → List Part
tail_of [] = []
tail_of (p ∷ ps) = ps

left_off : (xs ps qs : List Part) → xs ++ ps ≡ xs ++ qs → ps ≡ qs
unfolding tail_of
left_off [] ps qs h = h
left_off (x ∷ xs) ps qs h = left_off xs ps qs (ap tail_of h)

same_entries : (es ds : List Entry) → entries_parts es ≡ entries_parts ds → es ≡ ds
same_entries [] [] h = refl
same_entries [] (d ∷ ds) h = absurd (cc)
same_entries (e ∷ es) [] h = absurd (cc)
same_entries (e ∷ es) (d ∷ ds) h =
    let q : e ≡ d = sym (entry_back e.variable e.mark e.number e.divisor (entries_parts es))
    ∙ ap entry_in h
    ∙ entry_back d.variable d.mark d.number d.divisor (entries_parts ds) in
    let r = same_entries es ds (left_off (entry_parts e) (entries_parts es) (entries_parts ds)
    (h ∙ ap (λ x. entry_parts x ++ entries_parts ds) (sym q))) in
    ap (λ x. x ∷ es) q ∙ ap (λ xs. d ∷ xs) r

same_divisor : ReadsLiterals → (t : Option (List ℕ)) (a b : Option Literal) → IsDivisorOf t a
    → IsDivisorOf t b → a ≡ b
same_divisor law None None None p q = refl
same_divisor law None None (Some m) p q = absurd q
same_divisor law None (Some l) b p q = absurd p
same_divisor law (Some d) None b p q = absurd p
same_divisor law (Some d) (Some l) None p q = absurd q
same_divisor law (Some d) (Some l) (Some m) p q = ap (λ x. Some x) (sym (law d l p.0) ∙ law d m q.0)

made_row : Bool → Literal → Option Literal → Row
made_row negative l o = (record { literal = l; negative = negative }, o)

same_row : ReadsLiterals → (e : Entry) (a b : Row) → IsRowOf e a → IsRowOf e b → a ≡ b
unfolding made_row
same_row law e a b p q =
    let whole : made_row a.0.negative a.0.literal a.1 ≡ made_row b.0.negative b.0.literal b.1 =
    ap (λ n. made_row n a.0.literal a.1) (p.sign ∙ sym q.sign)
    ∙ ap (λ l. made_row b.0.negative l a.1) (sym (law e.number a.0.literal p.number)
    ∙ law e.number b.0.literal q.number)
    ∙ ap (made_row b.0.negative b.0.literal)
    (same_divisor law e.divisor a.1 b.1 p.divisor q.divisor) in
    whole

same_lists : {A : Type 0} (xs ys : List A) → length xs ≡ length ys
    → ((i : ℕ) (x y : A) → slice_get xs i ≡ Some x → slice_get ys i ≡ Some y → x ≡ y) → xs ≡ ys
same_lists [] [] l f = refl
same_lists [] (y ∷ ys) l f = absurd (omega arith)
same_lists (x ∷ xs) [] l f = absurd (omega arith)
same_lists (x ∷ xs) (y ∷ ys) l f =
    ap (λ z. z ∷ xs) (f 0 x y refl refl)
    ∙ ap (λ zs. y ∷ zs) (same_lists xs ys (omega arith) (λ i a b h g. f (suc i) a b h g))

pub spelled_once : ReadsLiterals → LexesOnce → (variables : List Name) (text : List ℕ) (rows all :
    List Row)
    → SpellsPoint variables text rows → SpellsPoint variables text all → rows ≡ all
spelled_once law once variables text rows all s z =
    let tokens = once text s.tokens z.tokens None None s.lexed z.lexed in
    let es : s.entries ≡ z.entries =
    same_entries s.entries z.entries (sym s.parts ∙ ap (parts_of text) tokens.tokens ∙ z.parts) in
    same_lists rows all (s.count ∙ sym z.count) (λ i a b h g.
    let l = slice_get_within rows i a h in
    let c = s.count in
    let v = some_at variables i (omega arith) in
    let p = s.each i v.0 a v.1 h in
    let q = z.each i v.0 b v.1 g in
    let there : slice_get s.entries q.0 ≡ Some q.1 = ap (λ xs. slice_get xs q.0) es ∙ q.2 in
    let k = s.once p.0 q.0 p.1 q.1 p.2 there (p.3 ∙ sym q.3) in
    let d : p.1 ≡ q.1 = same_Some _ _ (sym p.2 ∙ ap (slice_get s.entries) k ∙ there) in
    same_row law q.1 a b (subst (λ e. IsRowOf e a) d p.4) q.4)
