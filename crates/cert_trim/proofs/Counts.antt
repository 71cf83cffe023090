-- Numbers of steps over fronts of items.
use Rattle.std.proofs.Common.{◌≡◌, ◌≤◌, ◌<◌, ◌+◌, ℕ, suc, List, [], ◌∷◌, ◌++◌, length, take, drop}
use Rattle.std.proofs.Common.{slice_index_or, refl, sym, ap, subst, ◌∙◌, arith}
use Rattle.std.proofs.lemmas.List.{take_more}
use Rattle.std.proofs.Math.ListN.{take-append-drop}
use Rattle.std.proofs.Math.Seq.{drop-cons}
use Rattle.cert_bytes.specs.declared.item.Item.{Item}
use Rattle.cert_bytes.specs.declared.item.Item.TheVariants as item
use Rattle.cert_trim.specs.Trimmed.{number_behind, number_behind_all, step_count}
use Rattle.cert_trim.specs.Used.{AllBelow, CiteEarlier, cited_by, used_from}
use Rattle.cert_trim.specs.Flags.{used_with}

pub behind_append : (xs ys : List Item) (n : ℕ)
    → number_behind_all n (xs ++ ys) ≡ number_behind_all (number_behind_all n xs) ys
behind_append [] ys n = refl
behind_append (x ∷ xs) ys n = behind_append xs ys (number_behind n x)

-- one item more
pub behind_more : (n : ℕ) (items : List Item) (i : ℕ) (x : Item)
    → i < length items → x ≡ slice_index_or items i x → number_behind_all n
    (take (i + 1) items) ≡ number_behind (number_behind_all n (take i items)) x
behind_more n items i x below is = ap (number_behind_all n) (take_more items i x below)
    ∙ behind_append (take i items) (slice_index_or items i x ∷ []) n
    ∙ ap (number_behind (number_behind_all n (take i items))) (sym is)

not_less : (n : ℕ) (i : Item) → n ≤ number_behind n i
not_less n (item.Step r) = omega arith
not_less n (item.Leaf refs) = omega arith
not_less n (item.Dead r) = omega arith
not_less n (item.Nodes k) = omega arith
not_less n (item.Node k) = omega arith
not_less n (item.Marks k) = omega arith
not_less n (item.Mark k) = omega arith
not_less n (item.Cases k) = omega arith
not_less n (item.Cut x ps) = omega arith
not_less n (item.End) = omega arith

pub not_less_all : (items : List Item) (n : ℕ) → n ≤ number_behind_all n items
not_less_all [] n = omega arith
not_less_all (i ∷ items) n = let a = not_less n i in
    let b = not_less_all items (number_behind n i) in omega (arith, a, b)

-- numbers from start on
next_from : (start n : ℕ) (i : Item) → number_behind (start + n) i ≡ start + number_behind n i
next_from start n (item.Step r) = omega arith
next_from start n (item.Leaf refs) = refl
next_from start n (item.Dead r) = refl
next_from start n (item.Nodes k) = refl
next_from start n (item.Node k) = refl
next_from start n (item.Marks k) = refl
next_from start n (item.Mark k) = refl
next_from start n (item.Cases k) = refl
next_from start n (item.Cut x ps) = refl
next_from start n (item.End) = refl

all_from : (start : ℕ) (items : List Item) (n : ℕ)
    → number_behind_all (start + n) items ≡ start + number_behind_all n items
all_from start [] n = refl
all_from start (i ∷ items) n = ap (λ m. number_behind_all m items) (next_from start n i)
    ∙ all_from start items (number_behind n i)

pub behind_from : (start : ℕ) (items : List Item)
    → number_behind_all start items ≡ start + step_count items
behind_from start items =
    let e : start ≡ start + 0 = omega arith in
    ap (λ n. number_behind_all n items) e ∙ all_from start items 0

next_most : (n : ℕ) (i : Item) → number_behind n i ≤ n + 1
next_most n (item.Step r) = omega arith
next_most n (item.Leaf refs) = omega arith
next_most n (item.Dead r) = omega arith
next_most n (item.Nodes k) = omega arith
next_most n (item.Node k) = omega arith
next_most n (item.Marks k) = omega arith
next_most n (item.Mark k) = omega arith
next_most n (item.Cases k) = omega arith
next_most n (item.Cut x ps) = omega arith
next_most n (item.End) = omega arith

all_most : (items : List Item) (n : ℕ) → number_behind_all n items ≤ n + length items
all_most [] n = omega arith
all_most (i ∷ items) n = let a = next_most n i in
    let b = all_most items (number_behind n i) in omega (arith, a, b)

-- no more steps than items
pub count_most : (items : List Item) → step_count items ≤ length items
count_most items = let h = all_most items 0 in omega (arith, h)

-- the number behind an item tells that before it
pub behind_once : (i : Item) (a b : ℕ) → number_behind a i ≡ number_behind b i → a ≡ b
behind_once (item.Step r) a b e = omega (arith, e)
behind_once (item.Leaf refs) a b e = e
behind_once (item.Dead r) a b e = e
behind_once (item.Nodes k) a b e = e
behind_once (item.Node k) a b e = e
behind_once (item.Marks k) a b e = e
behind_once (item.Mark k) a b e = e
behind_once (item.Cases k) a b e = e
behind_once (item.Cut x ps) a b e = e
behind_once (item.End) a b e = e

-- ---- what is cited at a place

pub below_wider : (n m : ℕ) (ns : List ℕ) → n ≤ m → AllBelow n ns → AllBelow m ns
below_wider n m [] l h = tt
below_wider n m (k ∷ ns) l h = let b = h.0 in (omega (arith, b, l), below_wider n m ns l h.1)

cites_behind : (front later : List Item) (n : ℕ) (x : Item)
    → CiteEarlier n (front ++ x ∷ later) → AllBelow (number_behind_all n front) (cited_by x)
cites_behind [] later n x h = h.0
cites_behind (f ∷ front) later n x h = cites_behind front later (number_behind n f) x h.1

-- the items from a place on
pub drop_one : (items : List Item) (i : ℕ) (x : Item)
    → i < length items → x ≡ slice_index_or items i x → drop i items ≡ x ∷ drop (i + 1) items
drop_one items i x below is = drop-cons items i x below ∙ ap (λ y. y ∷ drop (suc i) items) (sym is)
    ∙ ap (λ k. x ∷ drop k items) (let e : suc i ≡ i + 1 = omega arith in e)

split_at : (items : List Item) (i : ℕ) (x : Item) → i < length items
    → x ≡ slice_index_or items i x → items ≡ take i items ++ x ∷ drop (i + 1) items
split_at items i x below is = sym (take-append-drop i items)
    ∙ ap (λ ys. take i items ++ ys) (drop_one items i x below is)

-- an item cites steps before it alone
pub cites_next : (start : ℕ) (items front later : List Item) (x : Item) (n : ℕ)
    → items ≡ front ++ x ∷ later
    → CiteEarlier start items → start + step_count items ≤ n → AllBelow n (cited_by x)
cites_next start items front later x n e h most =
    let b = cites_behind front later start x (subst (CiteEarlier start) e h) in
    let s = behind_from start items in
    let a = ap (number_behind_all start) e ∙ behind_append front (x ∷ later) start in
    let l = not_less (number_behind_all start front) x in
    let m = not_less_all later (number_behind (number_behind_all start front) x) in
    below_wider (number_behind_all start front) n (cited_by x) (omega (arith, s, a, l, m, most)) b

pub cites_at : (start : ℕ) (items : List Item) (i : ℕ) (x : Item) (n : ℕ)
    → i < length items → x ≡ slice_index_or items i x
    → CiteEarlier start items → start + step_count items ≤ n → AllBelow n (cited_by x)
cites_at start items i x n below is h most = cites_next start items (take i items)
    (drop (i + 1) items) x n (split_at items i x below is) h most

pub front_least : (items : List Item) (i : ℕ)
    → number_behind_all 0 (take i items) ≤ number_behind_all 0 items
front_least items i =
    let a = ap (number_behind_all 0) (sym (take-append-drop i items))
    ∙ behind_append (take i items) (drop i items) 0 in
    let m = not_less_all (drop i items) (number_behind_all 0 (take i items)) in
    omega (arith, a, m)

-- what is used from an item on
pub used_step : (n : ℕ) (i : Item) (items : List Item)
    → used_from n (i ∷ items) ≡ used_with n i (used_from (number_behind n i) items)
used_step n (item.Step r) items = refl
used_step n (item.Leaf refs) items = refl
used_step n (item.Dead r) items = refl
used_step n (item.Nodes k) items = refl
used_step n (item.Node k) items = refl
used_step n (item.Marks k) items = refl
used_step n (item.Mark k) items = refl
used_step n (item.Cases k) items = refl
used_step n (item.Cut x ps) items = refl
used_step n (item.End) items = refl

-- ---- one step back

module _ (items : List Item) (at behind : ℕ)
    (x : Item) (below : at < length items) (is : x ≡ slice_index_or items at x)
    (counted : behind ≡ number_behind_all 0 (take (at + 1) items)) where
  pub goes_back : behind ≡ number_behind (number_behind_all 0 (take at items)) x
  goes_back = counted ∙ behind_more 0 items at x below is

  pub counted_back : (before : ℕ)
      → behind ≡ number_behind before x → before ≡ number_behind_all 0 (take at items)
  counted_back before e = behind_once x before
      (number_behind_all 0 (take at items)) (sym e ∙ goes_back)

  pub used_back : (start before : ℕ) → behind ≡ number_behind before x
      → used_with (start + before) x (used_from (start + behind) (drop (at + 1) items))
      ≡ used_from (start + before) (drop at items)
  used_back start before e = ap (λ n. used_with (start + before) x
      (used_from n (drop (at + 1) items))) (ap (λ n. start + n) e ∙ sym (next_from start before x))
      ∙ sym (used_step (start + before) x (drop (at + 1) items))
      ∙ ap (used_from (start + before)) (sym (drop_one items at x below is))
