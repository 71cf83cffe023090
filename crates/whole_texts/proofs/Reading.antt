-- Bytes that are read piece by piece.
use Rattle.std.proofs.Common.{◌≡◌, ◌≤◌, ◌<◌, ◌+◌, ℕ, List, ◌++◌, length, take, drop, Option, Some}
use Rattle.std.proofs.Common.{None, sym, ap, ◌∙◌, arith, subst, Ok, length-append}
use Rattle.std.specs.Prelude.{⊤}
use Rattle.std.proofs.lemmas.List.{length-take-le, take_all, take-append-le}
use Rattle.std.proofs.Math.Seq.{take-add}
use Rattle.fx_edge.specs.Outside.{ReadsFrom}
use Rattle.whole_texts.specs.Texts.{IsText}

-- the bytes read so far are the first of those that are told
abbrev pub IsBegun : Option (List ℕ) → List ℕ → Type 0
IsBegun None text = ⊤
IsBegun (Some all) text = text ≡ take (length text) all

begun_more : (E : Type 0) (known seen : Option (List ℕ)) (text buf : List ℕ) (at n : ℕ)
    → seen ≡ known → at ≡ length text → n ≤ length buf → IsBegun known text
    → ReadsFrom {E = E} seen at (Ok n) buf → IsBegun known (text ++ take n buf)
begun_more E None seen text buf at n same e le front read = tt
begun_more E (Some all) seen text buf at n same e le front read =
    let piece : ReadsFrom {E = E} (Some all) at (Ok n) buf =
    subst (λ (o : Option (List ℕ)). ReadsFrom {E = E} o at (Ok n) buf) same read in
    let here : take n buf ≡ take n (drop (length text) all) =
    piece.bytes ∙ ap (λ (i : ℕ). take n (drop i all)) e in
    let len : length (text ++ take n buf) ≡ length text + n =
    length-append text (take n buf) ∙ ap (λ (i : ℕ). length text + i) (length-take-le n buf le) in
    let parts : take (length text + n) all
    ≡ take (length text) all ++ take n (drop (length text) all) =
    take-add (length text) n all in
    ap (λ (t : List ℕ). t ++ take n buf) front
    ∙ ap (λ (t : List ℕ). take (length text) all ++ t) here
    ∙ sym parts ∙ sym (ap (λ (i : ℕ). take i all) len)

-- the same where the bytes were read into the front of a longer buffer
pub begun_piece : (E : Type 0) (known seen : Option (List ℕ)) (text buf rest : List ℕ) (at n : ℕ)
    → seen ≡ known → at ≡ length text → n ≤ length buf → IsBegun known text
    → ReadsFrom {E = E} seen at (Ok n) buf → IsBegun known (text ++ take n (buf ++ rest))
begun_piece E known seen text buf rest at n same e le front read =
    subst (λ (piece : List ℕ). IsBegun known (text ++ piece)) (sym (take-append-le n buf rest le))
    (begun_more E known seen text buf at n same e le front read)

-- nothing more was there
pub text_ends : (E : Type 0) (known seen : Option (List ℕ)) (text buf : List ℕ) (at n most : ℕ)
    → seen ≡ known → at ≡ length text → n ≡ 0 → 0 < length buf
    → length text ≤ most → IsBegun known text
    → ReadsFrom {E = E} seen at (Ok n) buf → IsText most known text
text_ends E None seen text buf at n most same e none room short front read = short
text_ends E (Some all) seen text buf at n most same e none room short front read =
    let piece : ReadsFrom {E = E} (Some all) at (Ok n) buf =
    subst (λ (o : Option (List ℕ)). ReadsFrom {E = E} o at (Ok n) buf) same read in
    let past : length all ≤ at = piece.end none room in
    front ∙ take_all (length text) all (omega (arith, past, e))
    ∙ sym (take_all most all (omega (arith, past, e, short)))

-- as much was read as is asked for
pub text_full : (known : Option (List ℕ)) (text : List ℕ) (most : ℕ)
    → length text ≤ most → most ≤ length text → IsBegun known text → IsText most known text
text_full None text most short long front = short
text_full (Some all) text most short long front =
    let full : length text ≡ most = omega (arith, short, long) in
    front ∙ ap (λ (i : ℕ). take i all) full
