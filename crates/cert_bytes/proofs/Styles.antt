-- Laws of what specs/Styles defines.
use Rattle.std.specs.Prelude.{◌≡◌, List, [], ◌∷◌, ◌++◌, refl}
use Rattle.cert_bytes.specs.declared.style.Seen.{Seen}
use Rattle.cert_bytes.specs.declared.item.Item.{Item}
use Rattle.cert_bytes.specs.Styles.{seen_after, seen_behind}

-- Behind two lists the same is seen as behind one after the other.
pub seen_both : (s : Seen) (items more : List Item)
    → seen_behind s (items ++ more) ≡ seen_behind (seen_behind s items) more
seen_both s [] more = refl
seen_both s (i ∷ items) more = seen_both (seen_after s i) items more
