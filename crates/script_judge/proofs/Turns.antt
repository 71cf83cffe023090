-- The loop of the judge, a turn at a time.
use Rattle.std.proofs.Common.{◌≡◌, ℕ, zero, suc, ◌+◌, ◌-◌, ◌*◌, ◌≤◌, ◌<◌, Bool, true, false, ◌||◌}
use Rattle.std.proofs.Common.{◌&&◌, not, nat_lt, List, [], ◌∷◌, ◌++◌, length, take, drop, Option}
use Rattle.std.proofs.Common.{Some, None, refl, sym, ap, ◌∙◌, subst, arith, append-nil}
use Rattle.std.proofs.Common.{append_assoc}
use Rattle.std.proofs.lemmas.Bool.{ltb-false}
use Rattle.script_words.specs.Words.{Word}
use Rattle.script_shape.specs.declared.due.Due.{Due}
use Rattle.script_shape.specs.Roles.{Leaf, at, leaves_of}
use Rattle.script_judge.specs.declared.refusal.RefusalKind.{RefusalKind}
use Rattle.script_judge.specs.declared.fault.Fault.{Fault}
use Rattle.script_judge.specs.declared.judge.Seen.{Seen as CodeSeen}
use Rattle.script_judge.specs.declared.counts.Counts.{Counts}
use Rattle.script_judge.specs.declared.splits.Splits.{Splits}
use Rattle.script_judge.specs.Counts.{one_if}
use Rattle.script_judge.specs.Limits.{IsWithinLimits, HasCases}
use Rattle.script_claims.specs.declared.range.SplitRange.{SplitRange}
use Rattle.script_judge.specs.Names.{Name, is_used, is_some_among, defines, split_name}
use Rattle.script_judge.specs.Bounds.{is_bad_bound}
use Rattle.script_judge.specs.Said.{Said}
use Rattle.script_judge.specs.Front.{said_in}
use Rattle.script_judge.specs.Splits.{SplitsSeen, is_lacking, is_bad_point, cut_after, before_after}
use Rattle.script_judge.specs.Splits.{splits_after}
use Rattle.script_judge.specs.SplitViews.{splits_seen}
use Rattle.script_judge.specs.Numbers.{Notes, Tells, has_no_pieces, is_past_lsb, is_past_pieces}
use Rattle.script_judge.specs.Judge.{Seen, nothing_seen, seen_after, arrow_count, is_on_wrong_side}
use Rattle.script_judge.specs.Judge.{form_kind, form_refusal, limit_kind, limit_refusal, or_else}
use Rattle.script_judge.specs.Judge.{refusal_at, Judged, refused, passed}
use Rattle.script_judge.specs.Judging.{Passed, none, more, JudgedAt, IsFirstFault, HoldsSaid}
use Rattle.script_judge.specs.Judging.{SplitsNone}
use Rattle.script_judge.proofs.JudgeLaws.{fails}
use Rattle.script_judge.specs.Sides.{is_arrow, has_arrow}
use Rattle.script_judge.specs.Views.{IsSeen}

-- ---- arrows

one_arrow : (b later : Bool) (n : ℕ) → later ≡ nat_lt 0 n → (b || later) ≡ nat_lt 0 (one_if b + n)
one_arrow true later n h = there n
  where
    there : (n : ℕ) → true ≡ nat_lt 0 (1 + n)
    there n = grind arith
one_arrow false later n h = h ∙ ap (nat_lt 0) (as_many n)
  where
    as_many : (n : ℕ) → n ≡ 0 + n
    as_many n = omega arith

pub arrows_left : (ls : List Leaf) → has_arrow ls ≡ nat_lt 0 (arrow_count ls)
arrows_left [] = refl
arrows_left (l ∷ ls) =
    one_arrow (is_arrow l.role l.word) (has_arrow ls) (arrow_count ls) (arrows_left ls)

pub behind_arrow : (r : Due) (w : Word) (behind : List Leaf) (arrows left : ℕ)
    → arrows ≡ arrow_count (at r w ∷ behind) → left ≡ arrows - one_if (is_arrow r w)
    → left ≡ arrow_count behind
behind_arrow r w behind arrows left h k =
    k ∙ ap (λ n. n - one_if (is_arrow r w)) h ∙ less (one_if (is_arrow r w)) (arrow_count behind)
  where
    less : (a b : ℕ) → (a + b) - a ≡ b
    less a b = omega arith

pub told_arrow : (behind : List Leaf) (left : ℕ) → left ≡ arrow_count behind
    → nat_lt 0 left ≡ has_arrow behind
told_arrow behind left h = ap (nat_lt 0) h ∙ sym (arrows_left behind)

-- ---- limits

neither : (a b : Bool) → (a || b) ≡ false → a ≡ false
neither true b e = absurd (cc e)
neither false b e = refl

pub no_limit : (opened halved : ℕ) (c : Counts) (lsb pieces : Bool)
    → limit_kind opened halved c lsb pieces ≡ None → IsWithinLimits c
no_limit opened halved c lsb pieces h =
    let nesting = fails _ _ _ h in
    let definitions = fails _ _ _ nesting.1 in
    let propositions = fails _ _ _ definitions.1 in
    let hints = fails _ _ _ propositions.1 in
    let nodes = fails _ _ _ hints.1 in
    let low = fails _ _ _ nodes.1 in
    let splits = fails _ _ _ low.1 in
    let cut = fails _ _ _ splits.1 in
    let many = fails _ _ _ cut.1 in
    record {
      definitions = ltb-false 256 c.definitions definitions.0;
      propositions = ltb-false 128 c.propositions propositions.0;
      hints = ltb-false 64 c.hints hints.0;
      nodes = ltb-false 512 c.nodes nodes.0;
      splits = ltb-false 4 c.splits (neither _ _ splits.0);
      pieces = ltb-false 64 c.pieces (neither _ _ cut.0);
      cases = ltb-false 64 (c.cases * c.conjunctions) many.0;
    }

-- ---- the words that are left

pub split_at : (rs : List Due) (ws : List Word) (n : ℕ) (r : Due) (w : Word)
    → drop n rs ≡ r ∷ drop (n + 1) rs → drop n ws ≡ w ∷ drop (n + 1) ws
    → leaves_of (drop n rs) (drop n ws) ≡ at r w ∷ leaves_of (drop (n + 1) rs) (drop (n + 1) ws)
split_at rs ws n r w e f =
    ap (λ l. leaves_of l (drop n ws)) e ∙ ap (leaves_of (r ∷ drop (n + 1) rs)) f

pub same_rest : (rs later : List Due) (ws words : List Word) (n : ℕ) → later ≡ drop n rs
    → words ≡ drop n ws → leaves_of later words ≡ leaves_of (drop n rs) (drop n ws)
same_rest rs later ws words n e f = ap (λ l. leaves_of l words) e ∙ ap (leaves_of (drop n rs)) f

-- ---- the words before and behind a place

module _ {A : Type 0} where
  pub both_parts : (n : ℕ) (xs : List A) → take n xs ++ drop n xs ≡ xs
  both_parts zero xs = refl
  both_parts (suc n) [] = refl
  both_parts (suc n) (x ∷ xs) = ap (λ l. x ∷ l) (both_parts n xs)

  module _ (y : A) (rest : List A) where
    front_length : (n : ℕ) (xs : List A) → drop n xs ≡ y ∷ rest → length (take n xs) ≡ n
    front_length zero xs e = refl
    front_length (suc n) [] e = absurd (cc e)
    front_length (suc n) (x ∷ xs) e = ap (λ k. suc k) (front_length n xs e)

    one_taken : (n : ℕ) (xs : List A) → drop n xs ≡ y ∷ rest
        → take (suc n) xs ≡ take n xs ++ (y ∷ [])
    one_taken zero [] e = absurd (cc e)
    one_taken zero (x ∷ xs) e = let same : x ≡ y = cc e in ap (λ z. z ∷ []) same
    one_taken (suc n) [] e = absurd (cc e)
    one_taken (suc n) (x ∷ xs) e = ap (λ l. x ∷ l) (one_taken n xs e)

    one_dropped : (n : ℕ) (xs : List A) → drop n xs ≡ y ∷ rest → drop (suc n) xs ≡ rest
    one_dropped zero [] e = absurd (cc e)
    one_dropped zero (x ∷ xs) e = cc e
    one_dropped (suc n) [] e = absurd (cc e)
    one_dropped (suc n) (x ∷ xs) e = one_dropped n xs e

from_start : (n m : ℕ) → m ≡ n → n ≡ 0 + m
from_start n m e = omega (arith, e)

next_place : (n : ℕ) → n + 1 ≡ suc n
next_place n = omega arith

pub leaves_drop : (n : ℕ) (rs : List Due) (ws : List Word)
    → drop n (leaves_of rs ws) ≡ leaves_of (drop n rs) (drop n ws)
leaves_drop zero rs ws = refl
leaves_drop (suc n) [] ws = refl
leaves_drop (suc n) (r ∷ rs) [] = none_of (drop n rs)
  where
    none_of : (rs : List Due) → [] ≡ leaves_of rs []
    none_of [] = refl
    none_of (r ∷ rs) = refl
leaves_drop (suc n) (r ∷ rs) (w ∷ ws) = leaves_drop n rs ws

-- ---- words that pass

-- what is judged behind them is judged of all
pub judged_behind : (a b : List Leaf) {seen last : Seen} → Passed seen a b last → (i j : ℕ)
    → j ≡ i + length a → (found : Option Fault) → Judged j last b found
    → Judged i seen (a ++ b) found
judged_behind [] b {seen} none i j e found h =
    subst (λ k. Judged k seen b found) (e ∙ none_more i) h
  where
    none_more : (i : ℕ) → i + 0 ≡ i
    none_more i = omega arith
judged_behind (l ∷ a) b (more t r p) i j e found h =
    passed t r (judged_behind a b p (i + 1) j (e ∙ one_later i (length a)) found h)
  where
    one_later : (i n : ℕ) → i + suc n ≡ (i + 1) + n
    one_later i n = omega arith

-- what the formula says stays
pub said_behind : (a b : List Leaf) {seen last : Seen} → Passed seen a b last
    → last.said ≡ seen.said
said_behind [] b none = refl
said_behind (l ∷ a) b (more t r p) = said_behind a b p

-- one more
passed_more : (a b : List Leaf) (l : Leaf) {seen last : Seen} (v : Notes)
    → Passed seen a (l ∷ b) last → Tells v l.role l.word b
    → refusal_at v last l.role l.word b ≡ None
    → Passed seen (a ++ (l ∷ [])) b (seen_after v last l.role l.word)
passed_more [] b l v none t r = more {v = v} t r none
passed_more (x ∷ a) b l {seen} v (more {v = u} s q p) t r =
    let same : a ++ (l ∷ b) ≡ (a ++ (l ∷ [])) ++ b = sym (append_assoc a (l ∷ []) b) in
    more {v = u} (subst (λ ls. Tells u x.role x.word ls) same s)
    (subst (λ ls. refusal_at u seen x.role x.word ls ≡ None) same q) (passed_more a b l v p t r)

-- words none of which is refused
pub passed_all : (ls : List Leaf) {i : ℕ} {seen : Seen} {found : Option Fault}
    → Judged i seen ls found → found ≡ None → (last : Seen) × Passed seen ls [] last
passed_all [] {seen = seen} j e = (seen, none)
passed_all (l ∷ ls) (refused t r) e = absurd (cc e)
passed_all (l ∷ ls) {seen = seen} (passed {v = v} t r j) e =
    let later = passed_all ls j e in
    let same : ls ≡ ls ++ [] = sym (append-nil ls) in (
      later.0,
      more {v = v} (subst (λ b. Tells v l.role l.word b) same t)
          (subst (λ b. refusal_at v seen l.role l.word b ≡ None) same r) later.1,
    )

-- ---- one word

-- what the code holds of the formula says of a split variable what the leaves do
pub record SaysOf (said whole : Option Said) (name : Option Name) : Type 0 where
  pub lacks : is_lacking said name ≡ is_lacking whole name
  pub cut : (old : List (Option SplitRange)) → cut_after said name old ≡ cut_after whole name old

no_name : (said whole : Option Said) (name : Option Name) → name ≡ None → SaysOf said whole name
no_name None None None e = record { lacks = refl; cut = λ old. refl }
no_name None (Some g) None e = record { lacks = refl; cut = λ old. refl }
no_name (Some f) None None e = record { lacks = refl; cut = λ old. refl }
no_name (Some f) (Some g) None e = record { lacks = refl; cut = λ old. refl }
no_name said whole (Some text) e = absurd (cc e)

pub says_of : (all : List Leaf) (said : Option Said) (from end n : ℕ) (r : Due) (w : Word)
    (behind : List Leaf) → HoldsSaid all said from end → from ≤ n → n < end
    → drop n all ≡ at r w ∷ behind → SaysOf said (said_in all) (split_name r w)
says_of all None from end n r w behind h a b e =
    no_name None (said_in all) (split_name r w) (subst SplitsNone e (h n a b))
says_of all (Some f) from end n r w behind h a b e =
    let same : Some f ≡ said_in all = sym h in
    record {
      lacks = ap (λ s. is_lacking s (split_name r w)) same;
      cut = λ old. ap (λ s. cut_after s (split_name r w) old) same;
    }

-- where the code stands, what is told of the word there, and what its form is
pub record IsAt (all : List Leaf) (n : ℕ) (code : CodeSeen) (splits : Splits) (arrows : ℕ)
    (said : Option Said) (r : Due) (w : Word) (behind : List Leaf) (v : Notes)
    (form : Option RefusalKind) : Type 0 where
  pub judged : JudgedAt all n code splits arrows
  pub left : drop n all ≡ at r w ∷ behind
  pub says : SaysOf said (said_in all) (split_name r w)
  pub tells : Tells v r w behind
  pub formed : (s : Seen) → IsSeen code s → s.said ≡ said_in all
      → splits_seen splits ≡ s.splits → form ≡ form_refusal v s r w (has_arrow behind) behind

module _ (all : List Leaf) (n : ℕ) (code : CodeSeen) (splits : Splits) (arrows : ℕ)
    (said : Option Said) (r : Due) (w : Word) (behind : List Leaf) (v : Notes)
    (form : Option RefusalKind) (h : IsAt all n code splits arrows said r w behind v form) where
  abbrev stands : Seen
  stands = h.judged.seen

  abbrev after : Seen
  after = seen_after v stands r w

  said_here : stands.said ≡ said_in all
  said_here = said_behind (take n all) (drop n all) h.judged.passed

  refusal_here : refusal_at v stands r w behind ≡ or_else form (limit_refusal after r w)
  refusal_here = ap (λ o. or_else o (limit_refusal after r w))
      (sym (h.formed stands h.judged.stands said_here h.judged.splits_stand))

  ends : (k : RefusalKind) → refusal_at v stands r w behind ≡ Some k
      → IsFirstFault all (Some (record { kind = k; word = n }))
  ends k e =
      let found : Option Fault = Some (record { kind = k; word = n }) in
      let here : Judged n stands (drop n all) found =
      subst (λ ls. Judged n stands ls found) (sym h.left) (refused {v = v} h.tells e) in
      subst (λ ls. Judged 0 (nothing_seen (said_in all)) ls found) (both_parts n all)
      (judged_behind (take n all) (drop n all) h.judged.passed 0 n
      (from_start n (length (take n all)) (front_length (at r w) behind n all h.left)) found here)

  same_splits : (x : SplitsSeen) → splits_after x said (split_name r w) v.number r
      ≡ splits_after x (said_in all) (split_name r w) v.number r
  same_splits x =
      λ i. record { cut = h.says.cut x.cut i; before = before_after x.before v.number r }

  -- a token that is refused whatever is counted
  pub ends_by_form : (k : RefusalKind) → form ≡ Some k
      → IsFirstFault all (Some (record { kind = k; word = n }))
  ends_by_form k e = ends k (refusal_here ∙ ap (λ o. or_else o (limit_refusal after r w)) e)

  module _ (e : form ≡ None) (next : CodeSeen) (takes : (s : Seen) → IsSeen code s
      → IsSeen next (seen_after v s r w)) (limit : Option RefusalKind) (limits : (s : Seen)
      → IsSeen next s → limit ≡ limit_refusal s r w) where
    at_limit : refusal_at v stands r w behind ≡ limit
    at_limit =
        refusal_here ∙ ap (λ o. or_else o (limit_refusal after r w)) e
        ∙ sym (limits after (takes stands h.judged.stands))

    -- a token that passes a limit
    pub ends_by_limit : (k : RefusalKind) → limit ≡ Some k
        → IsFirstFault all (Some (record { kind = k; word = n }))
    ends_by_limit k g = ends k (at_limit ∙ g)

    -- a token that isn't refused
    pub goes_on : limit ≡ None → HasCases next.counts → (new : Splits) → splits_seen new
        ≡ splits_after (splits_seen splits) said (split_name r w) v.number r
        → (later : ℕ) → later ≡ arrow_count behind → JudgedAt all (n + 1) next new later
    goes_on g some new p later a =
        let s = takes stands h.judged.stands in
        let no_refusal : limit_refusal after r w ≡ None = sym (limits after s) ∙ g in
        let within = no_limit (length after.opened) (length after.names.halved)
        after.counts (is_past_lsb r w) (is_past_pieces r w) no_refusal in
        let told = sym said_here in
        let start = nothing_seen (said_in all) in
        let taken : take (n + 1) all ≡ take n all ++ (at r w ∷ []) =
        ap (λ k. take k all) (next_place n) ∙ one_taken (at r w) behind n all h.left in
        let dropped : drop (n + 1) all ≡ behind =
        ap (λ k. drop k all) (next_place n) ∙ one_dropped (at r w) behind n all h.left in
        let before : Passed start (take n all) (at r w ∷ behind) stands =
        subst (λ ls. Passed start (take n all) ls stands) h.left h.judged.passed in
        let through : Passed start (take n all ++ (at r w ∷ [])) behind after =
        passed_more (take n all) behind (at r w) v before h.tells (at_limit ∙ g) in
        record {
          seen = after;
          passed = subst (λ ls. Passed start (take (n + 1) all) ls after) (sym dropped)
              (subst (λ ls. Passed start ls behind after) (sym taken) through);
          stands = s;
          splits_stand = p ∙ same_splits (splits_seen splits)
              ∙ (λ i. splits_after (h.judged.splits_stand i) (told i) (split_name r w) v.number r);
          within = subst IsWithinLimits (sym s.counts) within;
          cases = some;
          arrows_left = a ∙ ap arrow_count (sym dropped);
        }

-- what the loop knows of a word
pub is_at : (rs : List Due) (ws : List Word) (n : ℕ) (code : CodeSeen) (splits : Splits)
    (arrows : ℕ) (said : Option Said) (r : Due) (w : Word) (later : List Due) (words : List Word)
    (v : Notes) (left : ℕ) (arrow lacks point : Bool) (form : Option RefusalKind)
    → JudgedAt (leaves_of rs ws) n code splits arrows
    → drop n rs ≡ r ∷ drop (n + 1) rs → drop n ws ≡ w ∷ drop (n + 1) ws
    → later ≡ drop (n + 1) rs → words ≡ drop (n + 1) ws
    → (from end : ℕ) → HoldsSaid (leaves_of rs ws) said from end → from ≤ n → n < end
    → Tells v r w (leaves_of later words) → left ≡ arrows - one_if arrow → arrow ≡ is_arrow r w
    → lacks ≡ is_lacking said (split_name r w)
    → point ≡ is_bad_point (splits_seen splits) (nat_lt 0 code.counts.pieces) v.number
    → ((s : Seen) → IsSeen code s → lacks ≡ is_lacking s.said (split_name r w)
    → point ≡ is_bad_point s.splits (nat_lt 0 s.counts.pieces) v.number
    → form ≡ form_refusal v s r w (nat_lt 0 left) (leaves_of later words))
    → IsAt (leaves_of rs ws) n code splits arrows said r w (leaves_of later words) v form
    × (left ≡ arrow_count (leaves_of later words))
is_at rs ws n code splits arrows said r w later words v left arrow lacks point form
    m er ew el ek from end f a b t la ia l p g =
    let behind = leaves_of later words in
    let rest : leaves_of (drop (n + 1) rs) (drop (n + 1) ws) ≡ behind =
    sym (same_rest rs later ws words (n + 1) el ek) in
    let here : drop n (leaves_of rs ws) ≡ at r w ∷ behind =
    leaves_drop n rs ws ∙ split_at rs ws n r w er ew ∙ ap (λ l. at r w ∷ l) rest in
    let counted : arrows ≡ arrow_count (at r w ∷ behind) =
    m.arrows_left ∙ ap arrow_count here in
    let fewer : left ≡ arrow_count behind = behind_arrow r w behind arrows left counted
    (la ∙ ap (λ b. arrows - one_if b) ia) in
    let told = told_arrow behind left fewer in
    let says = says_of (leaves_of rs ws) said from end n r w behind f a b here in (
      record {
        judged = m;
        left = here;
        says = says;
        tells = t;
        formed = λ s h c k. g s h
            (l ∙ says.lacks ∙ ap (λ x. is_lacking x (split_name r w)) (sym c))
            (p ∙ (λ i. is_bad_point (k i) (nat_lt 0 (h.counts i).pieces) v.number))
            ∙ ap (λ x. form_refusal v s r w x behind) told;
      },
      fewer,
    )

-- ---- what one token's tests tell

pub form_told : (v : Notes) (arrow_behind : Bool) (seen : Seen) (r : Due) (w : Word)
    (rs : List Due) (ws : List Word)
    (wrong_side used bad lacks rangeless split no_pieces point : Bool) (answer : Option RefusalKind)
    → wrong_side ≡ is_on_wrong_side r w arrow_behind (leaves_of rs ws)
    → used ≡ is_used seen.names (defines r w) (leaves_of rs ws)
    → bad ≡ is_bad_bound seen.bounds v.number
    → lacks ≡ is_lacking seen.said (split_name r w)
    → split ≡ is_some_among seen.names.defined (split_name r w)
    → rangeless ≡ (not split && lacks) → no_pieces ≡ has_no_pieces r w
    → point ≡ is_bad_point seen.splits (nat_lt 0 seen.counts.pieces) v.number
    → answer ≡ form_kind wrong_side used bad rangeless split no_pieces point v.past
    → answer ≡ form_refusal v seen r w arrow_behind (leaves_of rs ws)
form_told v arrow_behind seen r w rs ws wrong_side used bad lacks rangeless split no_pieces point
    answer a b k g d x p q e =
    e ∙ ap (λ y. form_kind wrong_side used bad y split no_pieces point v.past) x
    ∙ (λ i. form_kind (a i) (b i) (k i) (not (d i) && g i) (d i) (p i) (q i) v.past)

pub limit_told : (seen : Seen) (r : Due) (w : Word) (opened halved : ℕ) (counts : Counts)
    (lsb pieces : Bool) (answer : Option RefusalKind)
    → opened ≡ length seen.opened → halved ≡ length seen.names.halved
    → counts ≡ seen.counts → lsb ≡ is_past_lsb r w → pieces ≡ is_past_pieces r w
    → answer ≡ limit_kind opened halved counts lsb pieces → answer ≡ limit_refusal seen r w
limit_told seen r w opened halved counts lsb pieces answer o h n l p e =
    e ∙ (λ i. limit_kind (o i) (h i) (n i) (l i) (p i))
