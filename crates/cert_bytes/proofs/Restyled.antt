-- A reader behind an item: what was seen is one more.
use Rattle.std.proofs.Common.{◌≡◌, ◌≤◌, ◌<◌, ◌^◌, ℕ, List, [], length, Option, Some, None, Result}
use Rattle.std.proofs.Common.{Ok, Err, IfOk, IsErr, refl, sym, ap, subst, ◌∙◌, arith}
use Rattle.cert_bytes.specs.declared.fault.CertFault.{CertFault}
use Rattle.cert_bytes.specs.declared.fault.Stop.{Stop}
use Rattle.cert_bytes.specs.declared.fault.Stop.TheVariants.{Fault}
use Rattle.cert_bytes.specs.declared.item.Item.{Item}
use Rattle.cert_bytes.specs.declared.item.Item.TheVariants.{End}
use Rattle.cert_bytes.specs.declared.order.DueItem.{DueItem}
use Rattle.cert_bytes.specs.declared.style.Style.{Style}
use Rattle.cert_bytes.specs.Styles.{style_after}
use Rattle.cert_bytes.specs.Reading.{Cursor, entry_at, item_at}
use Rattle.cert_bytes.specs.Pieces.{Ahead, Gives, AgreesTold, cursor_of, name_of}
use Rattle.cert_bytes.specs.Calls.{ReadsOn}
use Rattle.cert_bytes.specs.Readers.{Progress, StandsBehind}
use Rattle.cert_bytes.proofs.Paced.{agrees_back}

abbrev pub restyled : Style → Ahead → Ahead
restyled style s = record { name = s.name; style = style; at = s.at; ahead = s.ahead }

here : (all : List ℕ) (d : DueItem) (source mid : Ahead) (i : Item)
    → entry_at d (cursor_of all source) ≡ Ok (i, cursor_of all mid)
    → item_at d (cursor_of all source)
    ≡ Ok (i, cursor_of all (restyled (style_after mid.style i) mid))
unfolding item_at
here all d source mid i e = rw e refl

pub item_read : (all : List ℕ)
    (due own : DueItem) (old source mid new : Ahead) (style : Style) (i : Item)
    → old ≡ source → due ≡ own → entry_at own (cursor_of all source) ≡ Ok (i, cursor_of all mid)
    → style ≡ style_after mid.style i → new ≡ restyled style mid
    → item_at due (cursor_of all old) ≡ Ok (i, cursor_of all new)
item_read all due own old source mid new style i a d e s n =
    ap (λ (old : Ahead). item_at due (cursor_of all old)) a
    ∙ ap (λ (d : DueItem). item_at d (cursor_of all source)) d
    ∙ here all own source mid i e
    ∙ ap (λ (style : Style). Ok (i, cursor_of all (restyled style mid))) (sym s)
    ∙ ap (λ (new : Ahead). Ok (i, cursor_of all new)) (sym n)

fault_here : (d : DueItem) (c : Cursor) (f : CertFault) → entry_at d c ≡ Err f → item_at d c ≡ Err f
unfolding item_at
fault_here d c f e = rw e refl

pub item_fault : (all : List ℕ) (due own : DueItem) (old source : Ahead) (f : CertFault)
    → old ≡ source → due ≡ own → entry_at own (cursor_of all source) ≡ Err f
    → item_at due (cursor_of all old) ≡ Err f
item_fault all due own old source f a d e =
    ap (λ (old : Ahead). item_at due (cursor_of all old)) a
    ∙ ap (λ (d : DueItem). item_at d (cursor_of all source)) d
    ∙ fault_here own (cursor_of all source) f e

agrees : (o : Option (List ℕ)) (mid : Ahead) (style : Style) → AgreesTold o mid
    → AgreesTold o (restyled style mid)
agrees None mid style a = tt
agrees (Some all) mid style a = record { within = a.within; rest = a.rest; ahead = a.ahead }

pub agrees_restyled : (told : List ℕ → Option (List ℕ)) (mid new : Ahead) (style : Style)
    → AgreesTold (told mid.name) mid → new ≡ restyled style mid → AgreesTold (told new.name) new
agrees_restyled told mid new style a n = subst (λ (new : Ahead). AgreesTold (told new.name) new)
    (sym n) (agrees (told mid.name) mid style a)

-- what is known of the place is known behind
pub kept_at : (P : Style → ℕ → Type 0) (mid new : Ahead) (style other : Style)
    → new ≡ restyled style mid → style ≡ other → P other mid.at → P new.style new.at
kept_at P mid new style other n s p = subst (λ (new : Ahead). P new.style new.at) (sym n)
    (subst (λ (style : Style). P style mid.at) (sym s) p)

pub fault_given : (all : List ℕ) (d : DueItem) (old new : Ahead) (r : Result Item Stop)
    (e : Stop) (f : CertFault) → r ≡ Err e → Gives (λ x. x) all old new r (entry_at d) → e ≡ Fault f
    → entry_at d (cursor_of all old) ≡ Err f
fault_given all d old new r e f q g h =
    subst (λ (r : Result Item Stop). Gives (λ x. x) all old new r (entry_at d)) q g f h

-- ---- where a reader stands

abbrev at_in : Ahead → ℕ
at_in s = s.at

abbrev style_at : Ahead → Style
style_at s = s.style

reads_at : (r : Result Item Stop) (start at now : ℕ) → at ≡ now
    → IfOk r (λ i. ¬ (i ≡ End) → start < at) → IfOk r (λ i. ¬ (i ≡ End) → start < now)
reads_at (Ok i) start at now e h = λ n. subst (λ (k : ℕ). start < k) e (h n)
reads_at (Err e) start at now q h = tt

-- behind what was read, with numbers spelled in this style
pub stands_at : (told : List ℕ → Option (List ℕ)) (old new : Progress) (source mid : Ahead)
    (style : Style) (r : Result Item Stop)
    → old.ahead ≡ source → ReadsOn name_of told source mid → (IsErr r → style ≡ source.style)
    → IfOk r (λ i. ¬ (i ≡ End) → source.at < mid.at)
    → mid.at ≤ 2 ^ 44 → length mid.ahead ≤ 65536
    → new.ahead ≡ restyled style mid → StandsBehind told old r new
stands_at told old new source mid style r a on same reads within few n =
    let here : new.ahead.at ≡ mid.at = ap at_in n in
    let there : old.ahead.at ≡ source.at = ap at_in a in
    let grows = on.grows in
    record {
      name = ap name_of n ∙ on.kept ∙ ap name_of (sym a);
      style = λ e. ap style_at n ∙ same e ∙ ap style_at (sym a);
      grows = omega (arith, here, there, grows);
      reads = subst (λ (k : ℕ). IfOk r (λ i. ¬ (i ≡ End) → k < new.ahead.at)) (sym there)
          (reads_at r source.at mid.at new.ahead.at (sym here) reads);
      within = omega (arith, here, within);
      few = subst (λ (s : Ahead). length s.ahead ≤ 65536) (sym n) few;
      agrees = agrees_restyled told mid new.ahead style on.agrees n;
    }

abbrev pub backed : List ℕ → Style → ℕ → Ahead
backed name style at = record { name = name; style = style; at = at; ahead = [] }

-- back where it stood, with what was read forgotten
pub stands_back : (before told : List ℕ → Option (List ℕ)) (old new : Progress) (source mid : Ahead)
    (style : Style) (at : ℕ) (e : Stop)
    → old.ahead ≡ source → AgreesTold (before old.ahead.name) old.ahead
    → ((n : List ℕ) → told n ≡ before n)
    → ReadsOn name_of told source mid → style ≡ source.style → at ≡ source.at
    → mid.at ≤ 2 ^ 44 → new.ahead ≡ backed mid.name style at → StandsBehind told old (Err e) new
stands_back before told old new source mid style at e a agrees same on s t within n =
    let here : new.ahead.at ≡ at = ap at_in n in
    let there : old.ahead.at ≡ source.at = ap at_in a in
    let grows = on.grows in
    let name : new.ahead.name ≡ old.ahead.name = ap name_of n ∙ on.kept ∙ ap name_of (sym a) in
    let known : before old.ahead.name ≡ told new.ahead.name =
    sym (same new.ahead.name ∙ ap before name) in
    record {
      name = name;
      style = λ _. ap style_at n ∙ s ∙ ap style_at (sym a);
      grows = omega (arith, here, there, t);
      reads = tt;
      within = omega (arith, here, t, grows, within);
      few = subst (λ (s : Ahead). length s.ahead ≤ 65536) (sym n) (omega arith);
      agrees = agrees_back (told new.ahead.name) old.ahead new.ahead
          (subst (λ (o : Option (List ℕ)). AgreesTold o old.ahead) known agrees)
          (here ∙ t ∙ sym there) (ap (λ (s : Ahead). s.ahead) n);
    }
