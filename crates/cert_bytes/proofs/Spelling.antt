-- Laws of what specs/Spelling defines.
use Rattle.std.specs.Prelude.{List, [], ◌∷◌, ◌++◌, ◌≡◌}
use Rattle.std.proofs.Common.{refl, sym, ap, ◌∙◌}
use Rattle.std.proofs.lemmas.List.{append_assoc}
use Rattle.cert_bytes.specs.declared.item.Item.{Item}
use Rattle.cert_bytes.specs.declared.style.Seen.{Seen}
use Rattle.cert_bytes.specs.Styles.{seen_after, seen_behind}
use Rattle.cert_bytes.specs.Spelling.{spelling_of, spelled_behind}

-- Two lists are spelled one after the other.
pub spelled_both : (s : Seen) (items more : List Item) → spelled_behind s (items ++ more)
    ≡ spelled_behind s items ++ spelled_behind (seen_behind s items) more
spelled_both s [] more = refl
spelled_both s (i ∷ items) more =
    ap (λ bs. spelling_of s i ++ bs) (spelled_both (seen_after s i) items more)
    ∙ sym (append_assoc (spelling_of s i) (spelled_behind (seen_after s i) items)
    (spelled_behind (seen_behind (seen_after s i) items) more))
