-- How long the new spelling is, of a certificate that is read item by item.
use Rattle.std.specs.Prelude.{◌≡◌, ◌+◌, ◌-◌, ◌^◌, ◌++◌, ℕ, List, [], ◌∷◌, Bool, true, false, length}
use Rattle.std.specs.Prelude.{min, Option}
use Rattle.std.proofs.Common.{◌∙◌, ap, subst, arith}
use Rattle.cert_bytes.specs.declared.item.Item.{Item}
use Rattle.cert_bytes.specs.declared.style.Seen.{Seen}
use Rattle.cert_bytes.specs.ReadOut.{ReadsAreSpelled}
use Rattle.cert_bytes.specs.Readers.{Progress}
use Rattle.cert_bytes.specs.Spelling.{certificate_of, spelling_of}
use Rattle.cert_bytes.specs.Styles.{seen_in}
use Rattle.cert_upgrade.specs.Items.{AreItemsFor, Respells}
use Rattle.cert_upgrade.specs.Spelled.{most, told_length}
use Rattle.cert_upgrade.proofs.Read.{HasRead, read_more, read_whole}
use Rattle.cert_upgrade.proofs.Spelled.{length_one}

-- What was read so far is so long in version 2, as far as that is told.
pub record HasMeasured (told : Option (List ℕ)) (r : Progress) (seen : Seen) (ended : Bool)
    (size : ℕ) : Type 0 where
  pub items : List Item
  pub read : HasRead told items r seen ended
  pub size_is : size ≡ told_length (certificate_of items)

pub measured_none : (told : Option (List ℕ)) (r : Progress) (seen : Seen)
    → HasRead told [] r seen false → HasMeasured told r seen false 0
measured_none told r seen h = record { items = []; read = h; size_is = omega arith }

-- a sum that doesn't wrap
summed : (before added sum now : ℕ) → sum ≡ min (before + added) (2 ^ 64 - 1)
    → now ≡ min sum (most + 1) → now ≡ min (before + added) (most + 1)
summed before added sum now s n = omega (arith, s, n)

pub measured_more : (told : Option (List ℕ)) (r q : Progress) (seen next : Seen) (ended : Bool)
    (before sum now : ℕ) (bytes : List ℕ) → HasMeasured told r seen false before
    → Respells told r q seen next ended [] bytes → sum ≡ min (before + length bytes) (2 ^ 64 - 1)
    → now ≡ min sum (most + 1) → HasMeasured told q next ended now
measured_more told r q seen next ended before sum now bytes h x s n =
    let size : length bytes ≡ length (spelling_of seen x.item) = ap length x.bytes in
    let all : now ≡ min (before + length (spelling_of seen x.item)) (most + 1) =
    summed before (length bytes) sum now s n
    ∙ ap (λ (k : ℕ). min (before + k) (most + 1)) size in
    record {
      items = h.items ++ x.item ∷ [];
      read = read_more told h.items r q seen next ended [] bytes h.read x;
      size_is = length_one h.items x.item seen before now h.read.seen_is h.size_is all;
    }

-- the same as the loop has it: the folder at the turn tells what it told, and the buffer is empty
pub measured_turn : (told there : Option (List ℕ)) (r q : Progress) (seen next : Seen)
    (open_on ended : Bool) (before sum now : ℕ) (old bytes : List ℕ) → there ≡ told
    → open_on ≡ false → old ≡ [] → HasMeasured told r seen open_on before
    → Respells there r q seen next ended old bytes
    → sum ≡ min (before + length bytes) (2 ^ 64 - 1) → now ≡ min sum (most + 1)
    → HasMeasured told q next ended now
measured_turn told there r q seen next open_on ended before sum now old bytes t o e h x s n =
    measured_more told r q seen next ended before sum now bytes
    (subst (λ (b : Bool). HasMeasured told r seen b before) o h)
    (subst (λ (l : List ℕ). Respells told r q seen next ended l bytes) e
    (subst (λ (k : Option (List ℕ)). Respells k r q seen next ended old bytes) t x)) s n

pub measured_all : ReadsAreSpelled → (told : Option (List ℕ)) (r : Progress) (seen : Seen)
    (ended : Bool) (size : ℕ) → ended ≡ true → HasMeasured told r seen ended size
    → (items : List Item) × AreItemsFor told items × (seen ≡ seen_in items)
    × (size ≡ told_length (certificate_of items))
measured_all law told r seen ended size e h = (
  h.items,
  read_whole law told h.items r seen ended e h.read,
  h.read.seen_is,
  h.size_is,
)
