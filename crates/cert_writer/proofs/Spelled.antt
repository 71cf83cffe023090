-- What is spelled one behind the other.
use Rattle.std.specs.Prelude.{◌≡◌, ◌+◌, ℕ, suc, List, [], ◌∷◌, ◌++◌, length, map, take, Some}
use Rattle.std.specs.Prelude.{slice_get}
use Rattle.std.proofs.Common.{sym, ◌∙◌, ap, append-nil, arith}
use Rattle.std.proofs.lemmas.List.{append_assoc, map-append}
use Rattle.std.proofs.Math.Seq.{take-suc}
use Rattle.std.proofs.lemmas.Option.{slice_get_within, get_or_from_slice_get}
use Rattle.fx_model.specs.declared.Node.{Node}
use Rattle.facts.specs.declared.hint.HintMark.{HintMark}
use Rattle.cert_bytes.specs.declared.item.Item.{Item}
use Rattle.cert_bytes.specs.declared.item.Item.TheVariants as item
use Rattle.cert_bytes.specs.declared.style.Seen.{Seen}
use Rattle.cert_bytes.specs.Styles.{none_seen, seen_behind}
use Rattle.cert_bytes.specs.Spelling.{spelling_of, spelled_behind, certificate_of}
use Rattle.cert_bytes.proofs.Spelling.{spelled_both}
use Rattle.tree_certificates.specs.Roots.{cases_items}
use Rattle.cert_writer.specs.Heads.{head_items}
use Rattle.cert_writer.proofs.Seen.{nodes_seen, marks_seen}

-- items behind some that are none of what is seen
head_both : (items more : List Item) → seen_behind none_seen items ≡ none_seen
    → certificate_of (items ++ more) ≡ certificate_of items ++ certificate_of more
head_both items more none = spelled_both none_seen items more
    ∙ ap (λ s. certificate_of items ++ spelled_behind s more) none

regroup : (old x a y b c : List ℕ)
    → ((((old ++ x) ++ a) ++ y) ++ b) ++ c ≡ old ++ (x ++ (a ++ (y ++ (b ++ c))))
regroup old x a y b c = simp append_assoc

-- the head, item by item
pub spelled_head : (nodes : List Node) (marks : List HintMark) (count : ℕ)
    (old a b c d new : List ℕ) → a ≡ old ++ spelling_of none_seen (item.Nodes (length nodes))
    → b ≡ a ++ certificate_of (map item.Node nodes)
    → c ≡ b ++ spelling_of none_seen (item.Marks (length marks))
    → d ≡ c ++ certificate_of (map item.Mark marks)
    → new ≡ d ++ certificate_of (cases_items count)
    → new ≡ old ++ certificate_of (head_items nodes marks count)
spelled_head nodes marks count old a b c d new ea eb ec ed en =
    let x : List ℕ = spelling_of none_seen (item.Nodes (length nodes)) in
    let ns : List ℕ = certificate_of (map item.Node nodes) in
    let y : List ℕ = spelling_of none_seen (item.Marks (length marks)) in
    let ms : List ℕ = certificate_of (map item.Mark marks) in
    let k : List ℕ = certificate_of (cases_items count) in
    let later : List Item = map item.Mark marks ++ cases_items count in
    let behind : certificate_of later ≡ ms ++ k =
    head_both (map item.Mark marks) (cases_items count) (marks_seen none_seen marks) in
    let all : certificate_of (head_items nodes marks count) ≡ x ++ (ns ++ (y ++ (ms ++ k))) =
    ap (λ z. x ++ z)
    (head_both (map item.Node nodes) (item.Marks (length marks) ∷ later)
    (nodes_seen none_seen nodes)
    ∙ ap (λ z. ns ++ (y ++ z)) behind) in
    en
    ∙ ap (λ z. z ++ k)
    (ed ∙ ap (λ z. z ++ ms) (ec ∙ ap (λ z. z ++ y) (eb ∙ ap (λ z. z ++ ns) ea)))
    ∙ regroup old x ns y ms k
    ∙ ap (λ z. old ++ z) (sym all)

-- one item more, behind what was seen at first
pub spelled_more : (s : Seen) (old now new : List ℕ) (items : List Item) (i : Item)
    → now ≡ old ++ spelled_behind s items → new ≡ now ++ spelling_of (seen_behind s items) i
    → new ≡ old ++ spelled_behind s (items ++ i ∷ [])
spelled_more s old now new items i e f =
    let q : Seen = seen_behind s items in
    let one : spelled_behind q (i ∷ []) ≡ spelling_of q i = append-nil (spelling_of q i) in
    let all : spelled_behind s (items ++ i ∷ []) ≡ spelled_behind s items ++ spelling_of q i =
    spelled_both s items (i ∷ []) ∙ ap (λ bs. spelled_behind s items ++ bs) one in
    f
    ∙ ap (λ bs. bs ++ spelling_of q i) e
    ∙ append_assoc old (spelled_behind s items) (spelling_of q i)
    ∙ ap (λ bs. old ++ bs) (sym all)

-- one item more of a kind
pub spelled_map : {X : Type 0} (f : X → Item) (s : Seen) (xs : List X) (x : X)
    (old now new : List ℕ) → now ≡ old ++ spelled_behind s (map f xs)
    → new ≡ now ++ spelling_of (seen_behind s (map f xs)) (f x)
    → new ≡ old ++ spelled_behind s (map f (xs ++ x ∷ []))
spelled_map f s xs x old now new e h =
    spelled_more s old now new (map f xs) (f x) e h
    ∙ ap (λ items. old ++ spelled_behind s items) (sym (map-append f xs (x ∷ [])))

-- the next of a list, of a kind that is none of what is seen
pub spelled_next : {X : Type 0} (f : X → Item)
    → ((ys : List X) → seen_behind none_seen (map f ys) ≡ none_seen)
    → (xs : List X) (k : ℕ) (x : X) (old now new : List ℕ) → slice_get xs k ≡ Some x
    → now ≡ old ++ certificate_of (map f (take k xs)) → new ≡ now ++ spelling_of none_seen (f x)
    → new ≡ old ++ certificate_of (map f (take (k + 1) xs))
spelled_next f none xs k x old now new there e h =
    let n : k + 1 ≡ suc k = omega arith in
    let front : take (k + 1) xs ≡ take k xs ++ x ∷ [] =
    ap (λ i. take i xs) n ∙ take-suc xs k x (slice_get_within xs k x there)
    ∙ ap (λ z. take k xs ++ z ∷ []) (get_or_from_slice_get xs k x x there) in
    let here : new ≡ now ++ spelling_of (seen_behind none_seen (map f (take k xs))) (f x) =
    h ∙ ap (λ s. now ++ spelling_of s (f x)) (sym (none (take k xs))) in
    spelled_map f none_seen (take k xs) x old now new e here
    ∙ ap (λ ys. old ++ certificate_of (map f ys)) (sym front)
