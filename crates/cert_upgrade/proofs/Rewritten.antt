-- What a file has taken of a certificate that is read and spelled item by item.
use Rattle.std.specs.Prelude.{◌≡◌, ◌++◌, ℕ, List, [], ◌∷◌, Bool, true, false, Option, refl}
use Rattle.std.proofs.Common.{sym, ◌∙◌, ap, subst, append-nil}
use Rattle.std.specs.Io.KnownBytes.{Appends}
use Rattle.std.proofs.lemmas.List.{append_assoc}
use Rattle.cert_bytes.specs.declared.item.Item.{Item}
use Rattle.cert_bytes.specs.declared.order.DueItem.TheVariants.{Head}
use Rattle.cert_bytes.specs.declared.style.Seen.{Seen}
use Rattle.cert_bytes.specs.declared.style.Style.TheVariants.{First}
use Rattle.cert_bytes.specs.Fronts.{IsFront}
use Rattle.cert_bytes.specs.Pieces.{cursor_of}
use Rattle.cert_bytes.specs.ReadOut.{ReadsAreSpelled}
use Rattle.cert_bytes.specs.Readers.{Progress}
use Rattle.cert_bytes.specs.Reading.{cursor}
use Rattle.cert_bytes.specs.Spelling.{certificate_of, spelling_of}
use Rattle.cert_bytes.specs.Styles.{seen_in}
use Rattle.whole_texts.specs.Pieces.{AppendsFront, PassesOn}
use Rattle.whole_texts.proofs.Pieces.{appends_both}
use Rattle.cert_upgrade.specs.Answers.{IsTaken, IsTakenInPart}
use Rattle.cert_upgrade.specs.Items.{Respells}
use Rattle.cert_upgrade.proofs.Begun.{some_end, front_more}
use Rattle.cert_upgrade.proofs.Held.{appends_none}
use Rattle.cert_upgrade.proofs.Leads.{leads_front}
use Rattle.cert_upgrade.proofs.Read.{HasRead, read_more, read_whole}
use Rattle.cert_upgrade.proofs.Spelled.{spelled_one}

-- What was read so far is spelled in what the file took and in what waits for it, which at the end
-- is nothing.
pub record HasRewritten (told : Option (List ℕ)) (r : Progress) (seen : Seen) (ended : Bool)
    (before now : Option (List ℕ)) (waiting : List ℕ) : Type 0 where
  pub items : List Item
  pub written : List ℕ
  pub read : HasRead told items r seen ended
  pub spells : written ++ waiting ≡ certificate_of items
  pub took : Appends before now written
  pub none_left : ended ≡ true → waiting ≡ []

-- Nothing, at first.
pub rewritten_none : (told : Option (List ℕ)) (r : Progress) (seen : Seen)
    (before now : Option (List ℕ)) (waiting : List ℕ) → HasRead told [] r seen false
    → waiting ≡ [] → now ≡ before → HasRewritten told r seen false before now waiting
rewritten_none told r seen before now waiting h w e = record {
  items = [];
  written = [];
  read = h;
  spells = w;
  took = subst (λ x. Appends before x []) (sym e) (appends_none before);
  none_left = λ z. w;
}

-- what an item more spells stands behind
one_more : (items : List Item) (i : Item) (seen : Seen)
    (written front left waiting spelled : List ℕ) → seen ≡ seen_in items
    → written ++ waiting ≡ certificate_of items → spelled ≡ waiting ++ spelling_of seen i
    → spelled ≡ front ++ left → (written ++ front) ++ left ≡ certificate_of (items ++ i ∷ [])
one_more items i seen written front left waiting spelled s e b is =
    append_assoc written front left
    ∙ ap (λ bs. written ++ bs) (sym is ∙ b)
    ∙ sym (append_assoc written waiting (spelling_of seen i))
    ∙ ap (λ bs. bs ++ spelling_of seen i) e
    ∙ sym (spelled_one items i seen s)

-- One item more, of which the file takes what it is given.
pub rewritten_more : (told : Option (List ℕ)) (r q : Progress) (seen next : Seen) (ended : Bool)
    (before now after : Option (List ℕ)) (waiting spelled left : List ℕ)
    → HasRewritten told r seen false before now waiting
    → Respells told r q seen next ended waiting spelled
    → PassesOn now after spelled left → (ended ≡ true → left ≡ [])
    → HasRewritten told q next ended before after left
rewritten_more told r q seen next ended before now after waiting spelled left h x
    (front, is, p) n = record {
      items = h.items ++ x.item ∷ [];
      written = h.written ++ front;
      read = read_more told h.items r q seen next ended waiting spelled h.read x;
      spells = one_more h.items x.item seen h.written front left waiting spelled h.read.seen_is
          h.spells x.bytes is;
      took = appends_both before now after h.written front h.took p;
      none_left = n;
    }

-- the same as the loop has it: the folder at the turn tells of the certificate what it told, and
-- reading leaves the file
pub rewritten_turn : (told there : Option (List ℕ)) (r q : Progress) (seen next : Seen)
    (open_on ended : Bool) (before now read after : Option (List ℕ)) (waiting spelled left : List ℕ)
    → there ≡ told → open_on ≡ false → read ≡ now
    → HasRewritten told r seen open_on before now waiting
    → Respells there r q seen next ended waiting spelled
    → PassesOn read after spelled left → (ended ≡ true → left ≡ [])
    → HasRewritten told q next ended before after left
rewritten_turn told there r q seen next open_on ended before now read after waiting spelled left t
    o k h x p n =
    rewritten_more told r q seen next ended before now after waiting spelled left
    (subst (λ (b : Bool). HasRewritten told r seen b before now waiting) o h)
    (subst (λ (d : Option (List ℕ)). Respells d r q seen next ended waiting spelled) t x)
    (subst (λ (d : Option (List ℕ)). PassesOn d after spelled left) k p) n

-- A front of what was spelled is one of all items' spelling.
in_part : (told : Option (List ℕ)) (items : List Item) (r : Progress) (seen : Seen) (ended : Bool)
    (before now : Option (List ℕ)) (written waiting : List ℕ) → HasRead told items r seen ended
    → written ++ waiting ≡ certificate_of items → Appends before now written
    → IsTakenInPart told before now
in_part told items r seen ended before now written waiting h e took = record {
  of_told = λ all full t are.
      let rest = leads_front Head (cursor First all 0) items r.due (cursor_of all r.ahead) full
      (h.leads all t) are.read in (
        written,
        subst (λ is. IsFront written (certificate_of is)) (sym rest.1)
            (front_more written waiting items rest.0 e),
        took,
      );
  of_some = let end = some_end r.due in (
    items ++ end.0,
    h.begun end.0 end.1,
    (written, front_more written waiting items end.0 e, took),
  );
}

-- Nothing was taken.
pub nothing_taken : (told before now : Option (List ℕ)) → now ≡ before
    → IsTakenInPart told before now
nothing_taken told before now e =
    let took : Appends before now [] =
    subst (λ (x : Option (List ℕ)). Appends before x []) (sym e) (appends_none before) in
    let end = some_end Head in
    record {
      of_told = λ all items t are. ([], (certificate_of items, refl), took);
      of_some = (end.0, end.1, ([], (certificate_of end.0, refl), took));
    }

-- No further item was read.
pub broken_reading : (told : Option (List ℕ)) (r : Progress) (seen : Seen) (ended : Bool)
    (before now : Option (List ℕ)) (waiting : List ℕ)
    → HasRewritten told r seen ended before now waiting → IsTakenInPart told before now
broken_reading told r seen ended before now waiting h =
    in_part told h.items r seen ended before now h.written waiting h.read h.spells h.took

-- An item was read, and the file took a front of what waited then.
pub broken_writing : (told : Option (List ℕ)) (r q : Progress) (seen next : Seen) (ended : Bool)
    (before now after : Option (List ℕ)) (waiting spelled : List ℕ)
    → HasRewritten told r seen false before now waiting
    → Respells told r q seen next ended waiting spelled
    → AppendsFront now after spelled → IsTakenInPart told before after
broken_writing told r q seen next ended before now after waiting spelled h x
    (front, (more, is), p) =
    in_part told (h.items ++ x.item ∷ []) q next ended before after (h.written ++ front) more
    (read_more told h.items r q seen next ended waiting spelled h.read x)
    (one_more h.items x.item seen h.written front more waiting spelled h.read.seen_is h.spells
    x.bytes is)
    (appends_both before now after h.written front h.took p)

-- the same as the loop has it
pub broken_turn : (told there : Option (List ℕ)) (r q : Progress) (seen next : Seen)
    (open_on ended : Bool) (before now read after : Option (List ℕ)) (waiting spelled : List ℕ)
    → there ≡ told → open_on ≡ false → read ≡ now
    → HasRewritten told r seen open_on before now waiting
    → Respells there r q seen next ended waiting spelled
    → AppendsFront read after spelled → IsTakenInPart told before after
broken_turn told there r q seen next open_on ended before now read after waiting spelled t o k h x
    p =
    broken_writing told r q seen next ended before now after waiting spelled
    (subst (λ (b : Bool). HasRewritten told r seen b before now waiting) o h)
    (subst (λ (d : Option (List ℕ)). Respells d r q seen next ended waiting spelled) t x)
    (subst (λ (d : Option (List ℕ)). AppendsFront d after spelled) k p)

-- All of it.
pub rewritten_all : ReadsAreSpelled → (told : Option (List ℕ)) (r : Progress) (seen : Seen)
    (ended : Bool) (before now : Option (List ℕ)) (waiting : List ℕ) → ended ≡ true
    → HasRewritten told r seen ended before now waiting → IsTaken told seen before now
rewritten_all law told r seen ended before now waiting e h = record {
  items = h.items;
  items_are = read_whole law told h.items r seen ended e h.read;
  counts_are = h.read.seen_is;
  took = subst (λ bs. Appends before now bs)
      (sym (append-nil h.written) ∙ ap (λ bs. h.written ++ bs) (sym (h.none_left e)) ∙ h.spells)
      h.took;
}
