-- Formats of what a certificate begins and ends with.
use Rattle.std.proofs.Common.{◌≡◌, ◌≤◌, ◌+◌, ◌++◌, ◌∷◌, [], ◌==◌, if◌then◌else◌, ℕ, Bool, true}
use Rattle.std.proofs.Common.{false, List, Ok, refl, sym, ap, ap₂, subst, ◌∙◌, arith, lit<}
use Rattle.std.proofs.Common.{eqb-true}
use Rattle.std.specs.Prelude.{⊤}
use Rattle.std.proofs.lemmas.List.{append-nil}
use Rattle.cert_bytes.specs.declared.fault.CertKind.TheVariants.{BadMagic, BadVersion, BadTag}
use Rattle.cert_bytes.specs.declared.fault.CertKind.TheVariants.{BadCount, TrailingBytes}
use Rattle.cert_bytes.specs.declared.item.Item.{Item}
use Rattle.cert_bytes.specs.declared.item.Item.TheVariants as item
use Rattle.cert_bytes.specs.declared.style.Seen.{Seen}
use Rattle.cert_bytes.specs.declared.style.Style.{Style}
use Rattle.cert_bytes.specs.declared.style.Style.TheVariants.{First, Second}
use Rattle.cert_bytes.specs.Styles.{none_seen, Opens}
use Rattle.cert_bytes.specs.Certificates.{IsShort}
use Rattle.cert_bytes.specs.Reading.{Cursor, Read, styled, fault, byte_at, magic_at, version_at}
use Rattle.cert_bytes.specs.Reading.{preamble_at, head_at, short_at, more_at, is_some, end_item_at}
use Rattle.cert_bytes.specs.Reading.{same_count_at, counts_at, trailer_at, closed_by, closed_at}
use Rattle.cert_bytes.specs.Reading.{◌>>=◌}
use Rattle.cert_bytes.specs.ReadBack.{ReadsTo}
use Rattle.cert_bytes.specs.ReadOut.{AreBytes}
use Rattle.cert_bytes.specs.Spelling.{version_byte, trailer, spelling}
use Rattle.cert_bytes.proofs.Format.{plain, whole, Format, bind_out, ok_parts, made}
use Rattle.cert_bytes.proofs.Format.{tested, both, in_turn, byte, byte_back, tags, way, no_way}
use Rattle.cert_bytes.proofs.Format.{Told, told}
use Rattle.cert_bytes.proofs.NumberFormats.{number, sized_bytes, a_short, a_long}

-- ---- the head

a_magic : Format magic_at (plain (λ (u : ⊤). tt) (λ u old. 70 ∷ 88 ∷ 80 ∷ 67 ∷ []) (λ u. ⊤))
unfolding magic_at
a_magic = tested (number 4) BadMagic (λ n. n == 1180192835) (λ n. tt) (λ u. 1180192835) (λ u. tt)
    (λ u. ⊤) (λ u i. (lit< tt, refl, refl)) (λ n i t. (tt, sym (eqb-true n 1180192835 t), refl, tt))

abbrev version_by : ℕ → ℕ → Cursor → Read ⊤
version_by at n c = if n == 1 then Ok (tt, styled First c)
    else if n == 2 then Ok (tt, styled (Second none_seen) c)
    else fault BadVersion at

abbrev read : Cursor → Read ⊤
read c = Ok (tt, c)

-- the version, by which numbers are spelled from there on
version_is : (n at : ℕ) (c next : Cursor) → version_by at n c ≡ read next
    → (style : Style) × Opens style × (n ≡ version_byte style) × (styled style c ≡ next)
version_is n at c next e = by (n == 1) refl e
  where
    or_second : (t : Bool) → (n == 2) ≡ t
        → (if t then read (styled (Second none_seen) c) else fault BadVersion at) ≡ read next
        → (style : Style) × Opens style × (n ≡ version_byte style) × (styled style c ≡ next)
    or_second true t e = (
      Second none_seen,
      refl,
      eqb-true n 2 t,
      (ok_parts tt tt (styled (Second none_seen) c) next e).1,
    )
    or_second false t e = cc

    by : (t : Bool) → (n == 1) ≡ t → (if t then read (styled First c) else if n == 2
        then read (styled (Second none_seen) c) else fault BadVersion at) ≡ read next
        → (style : Style) × Opens style × (n ≡ version_byte style) × (styled style c ≡ next)
    by true t e = (First, tt, eqb-true n 1 t, (ok_parts tt tt (styled First c) next e).1)
    by false t e = or_second (n == 2) refl e

-- behind the version numbers are spelled as it says, whatever was thought before
a_version : Format version_at (record {
  gives = λ style. tt;
  spells = λ style old. version_byte style ∷ [];
  turns = λ style old. style;
  Is = Opens;
})
unfolding version_at
a_version = record {
  back = back;
  out = λ c next y b e.
      let o = bind_out (byte_at c) (λ n. version_by c.at n.0 n.1) (y, next) e in
      let q = byte.out c o.0.1 o.0.0 b o.1 in
      let v = version_is o.0.0 c.at o.0.1 next o.2 in record {
        value = v.0;
        is = v.1;
        given = refl;
        bytes = q.bytes ∙ ap (λ (n : ℕ). n ∷ o.0.1.rest) (q.given ∙ v.2)
            ∙ ap (λ (c : Cursor). version_byte v.0 ∷ c.rest) v.3;
        style = sym (ap (λ (c : Cursor). c.style) v.3);
        behind = subst (λ (c : Cursor). AreBytes c.rest) v.3 q.behind;
      };
}
  where
    back : (style : Style) → Opens style → (old : Style)
        → ReadsTo old style version_at (version_byte style ∷ []) tt
    back First o old at rest l =
        ap (λ q. q >>= λ n. version_by at n.0 n.1) (byte_back 1 old at rest l)
    back (Second seen) o old at rest l = subst (λ (seen : Seen).
        version_at (record { style = old; at = at; rest = 2 ∷ rest })
        ≡ read (record { style = Second seen; at = at + 1; rest = rest })) (sym o)
        (ap (λ q. q >>= λ n. version_by at n.0 n.1) (byte_back 2 old at rest l))

a_preamble : Format preamble_at (record {
  gives = λ (p : ⊤ × Style). tt;
  spells = λ p old. 70 ∷ 88 ∷ 80 ∷ 67 ∷ version_byte p.1 ∷ [];
  turns = λ p old. p.1;
  Is = λ p. ⊤ × Opens p.1;
})
unfolding preamble_at
a_preamble = in_turn magic_at version_at (λ at magic version c. read c)
    (made (both a_magic a_version) (λ p. tt))

pub a_head : Format head_at (record {
  gives = λ (p : (⊤ × Style) × ℕ). item.Nodes p.1;
  spells = λ p old. spelling (item.Nodes p.1) p.0.1;
  turns = λ p old. p.0.1;
  Is = λ p. (⊤ × Opens p.0.1) × IsShort p.1;
})
unfolding head_at
a_head = in_turn preamble_at short_at (λ at preamble n c. Ok (item.Nodes n, c))
    (made (both a_preamble a_short) (λ p. item.Nodes p.1))

-- ---- the end

a_same_count : (n : ℕ) → Format (same_count_at n) (plain (λ (u : ⊤). tt)
    (λ u old. sized_bytes 8 n old) (λ u. n ≤ 18446744073709551615))
unfolding same_count_at
a_same_count n = tested a_long BadCount (λ k. k == n) (λ k. tt) (λ u. n) (λ u. tt)
    (λ u. n ≤ 18446744073709551615) (λ u l. (l, grind arith, refl))
    (λ k l t. let e = eqb-true k n t in (
      tt,
      sym e,
      refl,
      subst (λ (k : ℕ).
          k ≤ 18446744073709551615) e l,
    ))

abbrev trailer_by : Seen → ℕ → ℕ → Cursor → Read ⊤
trailer_by seen at tag c = if tag == 6 then counts_at seen c else fault BadTag at

-- in version 2 the counts of what was seen stand in the trailer
abbrev trailer_bytes : Seen → ⊤ → Style → List ℕ
trailer_bytes seen u old = 6 ∷ (sized_bytes 8 seen.sections old ++ sized_bytes 8 seen.steps old)

-- the counts have room
abbrev pub HaveRoom : Seen → Type 0
HaveRoom seen =
    (seen.sections ≤ 18446744073709551615) × (seen.steps ≤ 18446744073709551615)

pub a_trailer : (seen : Seen)
    → Format (trailer_at seen) (whole (trailer_bytes seen) (λ u. HaveRoom seen))
unfolding trailer_at counts_at
a_trailer seen = tags (trailer_by seen) back (λ at tag.
    way 6 counts (λ p old. refl) (λ p i. i) (no_way tag BadTag at))
  where
    counts : Format (counts_at seen) (plain (λ (p : ⊤ × ⊤). tt)
        (λ p old. sized_bytes 8 seen.sections old ++ sized_bytes 8 seen.steps old)
        (λ p. HaveRoom seen))
    counts = in_turn (same_count_at seen.sections) (same_count_at seen.steps)
        (λ at sections steps c. read c)
        (made (both (a_same_count seen.sections) (a_same_count seen.steps)) (λ p. tt))

    back : (u : ⊤) → HaveRoom seen → Told (trailer_by seen) (trailer_bytes seen) u
    back u i = told (trailer_by seen) 6 (λ at. counts) (tt, tt) i

-- no byte is left
end_item : (c next : Cursor) (i : Item) → end_item_at c ≡ Ok (i, next)
    → (i ≡ item.End) × (c ≡ next) × (c.rest ≡ [])
unfolding end_item_at more_at
end_item c next i e = by c.rest refl e
  where
    by : (l : List ℕ) → c.rest ≡ l → (if is_some l then fault {A = Item × Cursor} TrailingBytes c.at
        else Ok (item.End, c)) ≡ Ok (i, next) → (i ≡ item.End) × (c ≡ next) × (c.rest ≡ [])
    by [] q e = let z = ok_parts item.End i c next e in (sym z.0, z.1, q)
    by (b ∷ l) q e = cc

-- where the end is read, its bytes are all that is left
pub record IsLast (i : Item) (c next : Cursor) : Type 0 where
  pub is : i ≡ item.End
  pub stands : c.rest ≡ spelling item.End c.style
  pub none : next.rest ≡ []
  pub style : next.style ≡ c.style

pub closed_out : (c next : Cursor) (i : Item) → AreBytes c.rest
    → closed_at c ≡ Ok (i, next) → IsLast i c next
unfolding closed_at
closed_out c next i b e = by c.style refl e
  where
    by : (style : Style) → c.style ≡ style → closed_by style c ≡ Ok (i, next) → IsLast i c next
    by First z e = let q = end_item c next i e in record {
      is = q.0;
      stands = q.2 ∙ ap trailer (sym z);
      none = sym (ap (λ (c : Cursor). c.rest) q.1) ∙ q.2;
      style = sym (ap (λ (c : Cursor). c.style) q.1);
    }
    by (Second seen) z e =
        let o = bind_out (trailer_at seen c) (λ trailer. end_item_at trailer.1) (i, next) e in
        let t = (a_trailer seen).out c o.0.1 o.0.0 b o.1 in
        let q = end_item o.0.1 next i o.2 in record {
          is = q.0;
          stands = t.bytes ∙ ap₂ (λ (s l : List ℕ). s ++ l) (ap (trailer_bytes seen tt) z) q.2
              ∙ append-nil (trailer (Second seen)) ∙ ap trailer (sym z);
          none = sym (ap (λ (c : Cursor). c.rest) q.1) ∙ q.2;
          style = sym (ap (λ (c : Cursor). c.style) q.1) ∙ t.style;
        }
