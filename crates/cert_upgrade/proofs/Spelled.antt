-- What items spell, one behind the other.
use Rattle.std.specs.Prelude.{◌≡◌, ◌+◌, ℕ, List, [], ◌∷◌, ◌++◌, length, min}
use Rattle.std.proofs.Common.{sym, ◌∙◌, ap, append-nil, arith}
use Rattle.std.proofs.lemmas.List.{length-append}
use Rattle.cert_bytes.specs.declared.item.Item.{Item}
use Rattle.cert_bytes.specs.declared.style.Seen.{Seen}
use Rattle.cert_bytes.specs.Styles.{none_seen, seen_after, seen_in}
use Rattle.cert_bytes.proofs.Styles.{seen_both}
use Rattle.cert_bytes.specs.Spelling.{spelling_of, certificate_of}
use Rattle.cert_bytes.proofs.Spelling.{spelled_both}
use Rattle.cert_upgrade.specs.Spelled.{most, told_length}

-- one item more
pub seen_one : (items : List Item) (i : Item) (s : Seen) → s ≡ seen_in items
    → seen_after s i ≡ seen_in (items ++ i ∷ [])
seen_one items i s e =
    ap (λ q. seen_after q i) e ∙ sym (seen_both none_seen items (i ∷ []))

pub spelled_one : (items : List Item) (i : Item) (s : Seen) → s ≡ seen_in items
    → certificate_of (items ++ i ∷ []) ≡ certificate_of items ++ spelling_of s i
spelled_one items i s e =
    spelled_both none_seen items (i ∷ [])
    ∙ ap (λ bs. certificate_of items ++ bs) (append-nil (spelling_of (seen_in items) i))
    ∙ ap (λ q. certificate_of items ++ spelling_of q i) (sym e)

-- its length, as far as it is told
pub length_one : (items : List Item) (i : Item) (s : Seen) (before now : ℕ) → s ≡ seen_in items
    → before ≡ told_length (certificate_of items)
    → now ≡ min (before + length (spelling_of s i)) (most + 1)
    → now ≡ told_length (certificate_of (items ++ i ∷ []))
length_one items i s before now e b n =
    let all : length (certificate_of (items ++ i ∷ []))
    ≡ length (certificate_of items) + length (spelling_of s i) =
    ap length (spelled_one items i s e)
    ∙ length-append (certificate_of items) (spelling_of s i) in
    omega (arith, all, b, n)
