-- A format of a value: how it is spelled, how it is read, and that each undoes the other. Formats
-- are made of formats: one behind another, a value made of what was read, a tag with its ways, and
-- so many of a kind.
use Rattle.std.proofs.Common.{◌≡◌, ◌≤◌, ◌<◌, ◌+◌, ◌++◌, ◌∷◌, [], ◌==◌, if◌then◌else◌, ℕ, zero, suc}
use Rattle.std.proofs.Common.{Bool, true, false, List, length, Option, Some, None, Result, Ok, Err}
use Rattle.std.proofs.Common.{refl, sym, ap, ap₂, subst, ◌∙◌, arith, append_assoc}
use Rattle.std.specs.Prelude.{⊤, nat_le}
use Rattle.std.specs.List.{flat_map}
use Rattle.std.proofs.lemmas.Bool.{eqb-true}
use Rattle.std.proofs.lemmas.List.{append-nil, length-append}
use Rattle.cert_bytes.specs.declared.fault.CertFault.{CertFault}
use Rattle.cert_bytes.specs.declared.fault.CertKind.{CertKind}
use Rattle.cert_bytes.specs.declared.fault.CertKind.TheVariants.{TooLong}
use Rattle.cert_bytes.specs.declared.style.Style.{Style}
use Rattle.cert_bytes.specs.Reading.{Cursor, Read, fault, numbered, next_byte, byte_at, both_at}
use Rattle.cert_bytes.specs.Reading.{◌>>=◌}
use Rattle.cert_bytes.specs.ReadBack.{place, ReadsTo}
use Rattle.cert_bytes.specs.ReadOut.{AreBytes}

-- what is spelled, by how numbers are spelled
abbrev pub Bytes : Type 0
Bytes = Style → List ℕ

-- How what is read as B is spelled: each value of A of which `Is` holds spells its bytes, which
-- are read as what it gives, and turns the style of the numbers behind it.
pub record Form (A B : Type 0) : Type 1 where
  pub gives : A → B
  pub spells : A → Bytes
  pub turns : A → Style → Style
  pub Is : A → Type 0

-- one that leaves the style
abbrev pub plain : {A B : Type 0} → (A → B) → (A → Bytes) → (A → Type 0) → Form A B
plain gives spells Is =
    record { gives = gives; spells = spells; turns = λ x old. old; Is = Is }

-- one whose values are those that are read
abbrev pub whole : {A : Type 0} → (A → Bytes) → (A → Type 0) → Form A A
whole spells Is = plain (λ x. x) spells Is

-- What was read is a value of the form, whose bytes stand between the two places.
pub record Stands {A B : Type 0} (F : Form A B) (c next : Cursor) (y : B) : Type 0 where
  pub value : A
  pub is : F.Is value
  pub given : F.gives value ≡ y
  pub bytes : c.rest ≡ F.spells value c.style ++ next.rest
  pub style : next.style ≡ F.turns value c.style
  pub behind : AreBytes next.rest

-- What is spelled is read back, whatever stands behind it, and what is read was spelled so.
pub record Format {A B : Type 0} (read : Cursor → Read B) (F : Form A B) : Type 0 where
  pub back : (x : A) → F.Is x → (old : Style)
      → ReadsTo old (F.turns x old) read (F.spells x old) (F.gives x)
  pub out : (c next : Cursor) (y : B) → AreBytes c.rest → read c ≡ Ok (y, next)
      → Stands F c next y

-- ---- what was read

pub bind_out : {A B : Type 0} (o : Result A CertFault) (f : A → Result B CertFault) (y : B)
    → o >>= f ≡ Ok y → (x : A) × (o ≡ Ok x) × (f x ≡ Ok y)
bind_out (Ok x) f y e = (x, refl, e)
bind_out (Err g) f y e = cc

abbrev given_as : {A : Type 0} → A → Result A CertFault
given_as x = Ok x

inside : {A : Type 0} (p q : A) → given_as p ≡ given_as q → p ≡ q
inside p q e = cc

pub ok_parts : {A : Type 0} (x y : A) (c d : Cursor)
    → given_as {A = A × Cursor} (x, c) ≡ given_as (y, d) → (x ≡ y) × (c ≡ d)
ok_parts {A} x y c d e = let q = inside (x, c) (y, d) e in
    (ap (λ (p : A × Cursor). p.0) q, ap (λ (p : A × Cursor). p.1) q)

-- ---- the same format, said otherwise

-- a reader that reads as another does
pub through : {A B : Type 0} {r q : Cursor → Read B} {F : Form A B} → Format q F
    → ((c : Cursor) → r c ≡ q c) → Format r F
through f e = record {
  back = λ x i old at rest l. e _ ∙ f.back x i old at rest l;
  out = λ c next y b p. f.out c next y b (sym (e c) ∙ p);
}

-- two values stand for the same
pub record IsSame {A B C : Type 0} (F : Form A B) (G : Form C B) (x : A) (y : C) : Type 0 where
  pub gives : F.gives x ≡ G.gives y
  pub spells : (old : Style) → F.spells x old ≡ G.spells y old
  pub turns : (old : Style) → F.turns x old ≡ G.turns y old

-- where neither turns the style
pub same_as : {A B C : Type 0} {f : A → B} {s : A → Bytes} {P : A → Type 0} {g : C → B}
    {t : C → Bytes} {Q : C → Type 0} {x : A} {y : C} → f x ≡ g y
    → ((old : Style) → s x old ≡ t y old) → IsSame (plain f s P) (plain g t Q) x y
same_as e q = record { gives = e; spells = q; turns = λ old. refl }

-- a value of F stands for it
abbrev pub IsOne : {A B C : Type 0} → Form A B → Form C B → C → Type 0
IsOne {A = A} F G y = (x : A) × F.Is x × IsSame F G x y

same_back : {A B C : Type 0} (r : Cursor → Read B) (F : Form A B) (G : Form C B) (x : A) (y : C)
    (old : Style) → IsSame F G x y
    → ReadsTo old (F.turns x old) r (F.spells x old) (F.gives x)
    → ReadsTo old (G.turns y old) r (G.spells y old) (G.gives y)
same_back {B = B} r F G x y old s f =
    subst (λ (v : B). ReadsTo old (G.turns y old) r (G.spells y old) v) s.gives
    (subst (λ (l : List ℕ). ReadsTo old (G.turns y old) r l (F.gives x)) (s.spells old)
    (subst (λ (new : Style). ReadsTo old new r (F.spells x old) (F.gives x)) (s.turns old) f))

-- other values stand for what is read
pub restated : {A B C : Type 0} {r : Cursor → Read B} {F : Form A B} → Format r F → (G : Form C B)
    → ((y : C) → G.Is y → IsOne F G y)
    → ((x : A) → F.Is x → (y : C) × G.Is y × IsSame F G x y) → Format r G
restated {r = r} {F = F} f G of to = record {
  back = λ y i old. let p = of y i in same_back r F G p.0 y old p.2 (f.back p.0 p.1 old);
  out = λ c next v b e. let s = f.out c next v b e in let p = to s.value s.is in record {
    value = p.0;
    is = p.1;
    given = sym p.2.gives ∙ s.given;
    bytes = s.bytes ∙ ap (λ (l : List ℕ). l ++ next.rest) (p.2.spells c.style);
    style = s.style ∙ p.2.turns c.style;
    behind = s.behind;
  };
}

-- ---- one behind another

-- a value, and behind it one that may depend on it
abbrev pub behind : {A B C D : Type 0} → Form A B → (A → Form C D) → Form (A × C) D
behind F G = record {
  gives = λ p. (G p.0).gives p.1;
  spells = λ p old. F.spells p.0 old ++ (G p.0).spells p.1 (F.turns p.0 old);
  turns = λ p old. (G p.0).turns p.1 (F.turns p.0 old);
  Is = λ p. F.Is p.0 × (G p.0).Is p.1;
}

pub then_to : {A B : Type 0} (r : Cursor → Read A) (k : ℕ → A → Cursor → Read B)
    (old mid new : Style) (s t : List ℕ) (x : A) (y : B)
    → ReadsTo old mid r s x → ((at : ℕ) → ReadsTo mid new (k at x) t y)
    → ReadsTo old new (λ c. r c >>= λ v. k c.at v.0 v.1) (s ++ t) y
then_to r k old mid new s t x y f g at rest l =
    let n : length (s ++ t) ≡ length s + length t = length-append s t in
    let here : at + length s ≤ 17592186044416 = omega (arith, l, n) in
    let there : at + length s + length t ≤ 17592186044416 = omega (arith, l, n) in
    let sum : at + length s + length t ≡ at + length (s ++ t) = omega (arith, n) in
    ap (λ (l : List ℕ). r (place old at l) >>= λ v. k at v.0 v.1) (append_assoc s t rest)
    ∙ ap (λ q. q >>= λ v. k at v.0 v.1) (f at (t ++ rest) here)
    ∙ g at (at + length s) rest there
    ∙ ap (λ (n : ℕ). Ok (y, place new n rest)) sum

pub sequence : {A B C D : Type 0} {r : Cursor → Read B} {F : Form A B} → Format r F
    → (k : ℕ → B → Cursor → Read D) → {G : A → Form C D}
    → ((at : ℕ) (x : A) → F.Is x → Format (k at (F.gives x)) (G x))
    → Format (λ c. r c >>= λ v. k c.at v.0 v.1) (behind F G)
sequence {r = r} {F = F} f k {G = G} g = record {
  back = λ p i old. then_to r k old (F.turns p.0 old) ((G p.0).turns p.1 (F.turns p.0 old))
      (F.spells p.0 old) ((G p.0).spells p.1 (F.turns p.0 old)) (F.gives p.0)
      ((G p.0).gives p.1) (f.back p.0 i.0 old)
      (λ at. (g at p.0 i.0).back p.1 i.1 (F.turns p.0 old));
  out = λ c next y b e.
      let o = bind_out (r c) (λ v. k c.at v.0 v.1) (y, next) e in
      let p = f.out c o.0.1 o.0.0 b o.1 in
      let q = (g c.at p.value p.is).out o.0.1 next y p.behind
      (ap (λ x. k c.at x o.0.1) p.given ∙ o.2) in record {
        value = (p.value, q.value);
        is = (p.is, q.is);
        given = q.given;
        bytes = p.bytes ∙ ap (λ (l : List ℕ). F.spells p.value c.style ++ l) (q.bytes
            ∙ ap (λ (old : Style). (G p.value).spells q.value old ++ next.rest) p.style)
            ∙ sym (append_assoc (F.spells p.value c.style)
            ((G p.value).spells q.value (F.turns p.value c.style)) next.rest);
        style = q.style ∙ ap (λ (old : Style). (G p.value).turns q.value old) p.style;
        behind = q.behind;
      };
}

-- ---- where nothing is read behind

-- What is made of what was read, or the fault: so it is of what the values of F give, and each
-- that is made was made so.
pub record Makes {A B C D : Type 0} (F : Form A B) (k : ℕ → B → Cursor → Read D) (of : C → A)
    (gives : C → D)
    (Is : C → Type 0) : Type 0 where
  pub fits : (y : C) → Is y → F.Is (of y)
  pub makes : (y : C) → Is y → (at : ℕ) (c : Cursor) → k at (F.gives (of y)) c ≡ Ok (gives y, c)
  pub only : (x : A) → F.Is x → (at : ℕ) (c next : Cursor) (z : D)
      → k at (F.gives x) c ≡ Ok (z, next)
      → (c ≡ next) × (y : C) × (of y ≡ x) × (gives y ≡ z) × Is y

abbrev pub made_by : {A B C D : Type 0} → Form A B → (C → A) → (C → D) → (C → Type 0) → Form C D
made_by F of gives Is = record {
  gives = gives;
  spells = λ y. F.spells (of y);
  turns = λ y. F.turns (of y);
  Is = Is;
}

pub ends : {A B C D : Type 0} {r : Cursor → Read B} {F : Form A B} → Format r F
    → (k : ℕ → B → Cursor → Read D) → {of : C → A} {gives : C → D} {Is : C → Type 0}
    → Makes F k of gives Is
    → Format (λ c. r c >>= λ v. k c.at v.0 v.1) (made_by F of gives Is)
ends {r = r} {F = F} f k {of = of} m = record {
  back = λ y i old at rest l.
      ap (λ q. q >>= λ v. k at v.0 v.1) (f.back (of y) (m.fits y i) old at rest l)
      ∙ m.makes y i at
      (place (F.turns (of y) old) (at + length (F.spells (of y) old)) rest);
  out = λ c next z b e.
      let o = bind_out (r c) (λ v. k c.at v.0 v.1) (z, next) e in
      let p = f.out c o.0.1 o.0.0 b o.1 in
      let q = m.only p.value p.is c.at o.0.1 next z (ap (λ x. k c.at x o.0.1) p.given ∙ o.2) in
      record {
        value = q.1;
        is = q.4;
        given = q.3;
        bytes = p.bytes ∙ ap₂ (λ x (next : Cursor). F.spells x c.style ++ next.rest) (sym q.2) q.0;
        style = sym (ap (λ (c : Cursor). c.style) q.0) ∙ p.style
            ∙ ap (λ x. F.turns x c.style) (sym q.2);
        behind = subst (λ (c : Cursor). AreBytes c.rest) q.0 p.behind;
      };
}

abbrev pub answer : {D : Type 0} → D → Cursor → Read D
answer x c = Ok (x, c)

-- one thing is made of each
pub made : {A B D : Type 0} {r : Cursor → Read B} {F : Form A B} → Format r F → (g : B → D)
    → Format (λ c. r c >>= λ v. Ok (g v.0, v.1)) (made_by F (λ x. x) (λ x. g (F.gives x)) F.Is)
made {F = F} f g = ends f (λ at x c. Ok (g x, c)) (record {
  fits = λ y i. i;
  makes = λ y i at c. refl;
  only = λ x i at c next z e. let q = ok_parts (g (F.gives x)) z c next e in
      (q.1, x, refl, q.0, i);
})

-- and what is made stands for itself
pub made_of : {A B D : Type 0} {r : Cursor → Read B} {F : Form A B} → Format r F → (g : B → D)
    → (of : D → A) → ((y : D) → g (F.gives (of y)) ≡ y) → ((x : A) → of (g (F.gives x)) ≡ x)
    → Format (λ c. r c >>= λ v. Ok (g v.0, v.1)) (made_by F of (λ y. y) (λ y. F.Is (of y)))
made_of {F = F} f g of there here = ends f (λ at x c. Ok (g x, c)) (record {
  fits = λ y i. i;
  makes = λ y i at c. ap (λ z. Ok (z, c)) (there y);
  only = λ x i at c next z e. let q = ok_parts (g (F.gives x)) z c next e in
      (q.1, g (F.gives x), here x, q.0, subst F.Is (sym (here x)) i);
})

-- a value, where one is made
pub kept : {A B D : Type 0} {r : Cursor → Read B} {F : Form A B} → Format r F
    → (g : B → Option D) → (of : D → A) → ((y : D) → F.Is (of y))
    → ((y : D) → g (F.gives (of y)) ≡ Some y)
    → ((x : A) (y : D) → g (F.gives x) ≡ Some y → of y ≡ x)
    → Format (λ c. r c >>= λ v. numbered c.at (g v.0) v.1)
    (made_by F of (λ y. y) (λ y. ⊤))
kept {F = F} f g of fits self only = ends f (λ at x c. numbered at (g x) c) (record {
  fits = λ y i. fits y;
  makes = λ y i at c. ap (λ o. numbered at o c) (self y);
  only = λ x i at c next z e. let q = some (g (F.gives x)) at c next z e in
      (q.1, z, only x z q.0, refl, tt);
})
  where
    some : {D : Type 0} (o : Option D) (at : ℕ) (c next : Cursor) (z : D)
        → numbered at o c ≡ Ok (z, next) → (o ≡ Some z) × (c ≡ next)
    some None at c next z e = cc
    some (Some y) at c next z e = let q = ok_parts y z c next e in (ap (λ z. Some z) q.0, q.1)

-- a value that a test lets through
pub tested : {A B C D : Type 0} {r : Cursor → Read B} {F : Form A B} → Format r F
    → (kind : CertKind) → (t : B → Bool) → (g : B → D) → (of : C → A) → (gives : C → D)
    → (Is : C → Type 0) → ((y : C) → Is y
    → F.Is (of y) × (t (F.gives (of y)) ≡ true) × (g (F.gives (of y)) ≡ gives y))
    → ((x : A) → F.Is x → t (F.gives x) ≡ true
    → (y : C) × (of y ≡ x) × (gives y ≡ g (F.gives x)) × Is y)
    → Format {B = D} (λ c. r c >>= λ v. if t v.0 then Ok (g v.0, v.1) else fault kind c.at)
    (made_by F of gives Is)
tested {F = F} f kind t g of gives Is passes only =
    ends f (λ at x c. if t x then Ok (g x, c) else fault kind at) (record {
      fits = λ y i. (passes y i).0;
      makes = λ y i at c. yes (t (F.gives (of y))) kind (g (F.gives (of y))) (gives y) at c
          (passes y i).1 (passes y i).2;
      only = λ x i at c next z e.
          let q = passed (t (F.gives x)) kind (g (F.gives x)) z at c next e in
          let p = only x i q.0 in (q.2, p.0, p.1, p.2 ∙ q.1, p.3);
    })
  where
    yes : {D : Type 0} (t : Bool) (kind : CertKind) (x y : D) (at : ℕ) (c : Cursor) → t ≡ true
        → x ≡ y → (if t then answer x c else fault kind at) ≡ Ok (y, c)
    yes true kind x y at c e q = ap (λ z. Ok (z, c)) q
    yes false kind x y at c e q = cc

    passed : {D : Type 0} (t : Bool) (kind : CertKind) (x y : D) (at : ℕ) (c next : Cursor)
        → (if t then answer x c else fault kind at) ≡ Ok (y, next)
        → (t ≡ true) × (x ≡ y) × (c ≡ next)
    passed true kind x y at c next e = let q = ok_parts x y c next e in (refl, q.0, q.1)
    passed false kind x y at c next e = cc

-- one that two tests let through
pub between : {A B : Type 0} {r : Cursor → Read B} {F : Form A B} → Format r F
    → (kind : CertKind) → (t u : B → Bool) → (Is : A → Type 0)
    → ((x : A) → Is x → F.Is x × (t (F.gives x) ≡ false) × (u (F.gives x) ≡ false))
    → ((x : A) → F.Is x → t (F.gives x) ≡ false → u (F.gives x) ≡ false → Is x)
    → Format {B = B} (λ c. r c >>= λ v. if t v.0 then fault kind c.at
    else (if u v.0 then fault kind c.at else Ok v)) (made_by F (λ x. x) F.gives Is)
between {F = F} f kind t u Is passes only =
    ends f (λ at x c. if t x then fault kind at else (if u x then fault kind at else Ok (x, c)))
    (record {
      fits = λ x i. (passes x i).0;
      makes = λ x i at c. yes (t (F.gives x)) (u (F.gives x)) kind (F.gives x) at c
          (passes x i).1 (passes x i).2;
      only = λ x i at c next z e.
          let q = passed (t (F.gives x)) (u (F.gives x)) kind (F.gives x) z at c next e in
          (q.3, x, refl, q.2, only x i q.0 q.1);
    })
  where
    yes : {D : Type 0} (t u : Bool) (kind : CertKind) (x : D) (at : ℕ) (c : Cursor) → t ≡ false
        → u ≡ false → (if t then fault kind at else (if u then fault kind at else answer x c))
        ≡ Ok (x, c)
    yes false false kind x at c e q = refl
    yes false true kind x at c e q = cc
    yes true u kind x at c e q = cc

    passed : {D : Type 0} (t u : Bool) (kind : CertKind) (x y : D) (at : ℕ) (c next : Cursor)
        → (if t then fault kind at else (if u then fault kind at else answer x c)) ≡ Ok (y, next)
        → (t ≡ false) × (u ≡ false) × (x ≡ y) × (c ≡ next)
    passed false false kind x y at c next e =
        let q = ok_parts x y c next e in (refl, refl, q.0, q.1)
    passed false true kind x y at c next e = cc
    passed true u kind x y at c next e = cc

-- ---- two fields

abbrev pub pair_of : {A B : Type 0} → A → B → A × B
pair_of a x = (a, x)

-- two that are those of a pair
pub both_parts : {A B : Type 0} {a b : A} {x y : B} → a ≡ b → x ≡ y
    → pair_of a x ≡ pair_of b y
both_parts e f = ap₂ (λ a x. pair_of a x) e f

pub both : {A B C D : Type 0} {r : Cursor → Read B} {q : Cursor → Read D} {F : Form A B}
    {G : Form C D} → Format r F → Format q G → Format (both_at r q)
    (behind F (λ x. made_by G (λ y. y) (λ y. (F.gives x, G.gives y)) G.Is))
unfolding both_at
both {q = q} {F = F} f g = sequence f (λ at x c. q c >>= λ y. Ok ((x, y.0), y.1))
    (λ at x i. made g (λ y. pair_of (F.gives x) y))

abbrev pair : {A B : Type 0} → A → B × Cursor → Read (A × B)
pair x y = answer (x, y.0) y.1

-- of which something is made
pub in_turn : {A B C D : Type 0} (r : Cursor → Read A) (q : Cursor → Read B)
    (k : ℕ → A → B → Cursor → Read D) {F : Form C D}
    → Format (λ c. both_at r q c >>= λ v. k c.at v.0.0 v.0.1 v.1) F
    → Format (λ c. r c >>= λ x. q x.1 >>= λ y. k c.at x.0 y.0 y.1) F
unfolding both_at
in_turn r q k f = through f (λ c. first (r c) q k c.at)
  where
    second : {A B D : Type 0} (o : Read B) (x : A) (k : A → B → Cursor → Read D)
        → (o >>= λ y. k x y.0 y.1) ≡ ((o >>= λ y. pair x y) >>= λ v. k v.0.0 v.0.1 v.1)
    second (Ok y) x k = refl
    second (Err e) x k = refl

    first : {A B D : Type 0} (o : Read A) (q : Cursor → Read B) (k : ℕ → A → B → Cursor → Read D)
        (at : ℕ) → (o >>= λ x. q x.1 >>= λ y. k at x.0 y.0 y.1)
        ≡ ((o >>= λ x. q x.1 >>= λ y. pair x.0 y) >>= λ v. k at v.0.0 v.0.1 v.1)
    first (Ok x) q k at = second (q x.1) x.0 (k at)
    first (Err e) q k at = refl

-- ---- where the style or the place tells what is made

-- what is made of a number by the style in which it is spelled
pub by_style : {A B D : Type 0} {r : Cursor → Read B} {gives : A → B} {spells : A → Bytes}
    {P : A → Type 0} → Format r (plain gives spells P) → (g : Style → B → D)
    → (of : Style → D → A) → (Is : D → Type 0)
    → ((old : Style) (y : D) → Is y → P (of old y) × (g old (gives (of old y)) ≡ y))
    → ((old : Style) (x : A) → P x → Is (g old (gives x)) × (of old (g old (gives x)) ≡ x))
    → Format (λ c. r c >>= λ v. Ok (g c.style v.0, v.1))
    (whole (λ y old. spells (of old y) old) Is)
by_style {r = r} {gives = gives} {spells = spells} f g of Is there here = record {
  back = λ y i old at rest l.
      let t = there old y i in
      ap (λ q. q >>= λ v. Ok (g old v.0, v.1)) (f.back (of old y) t.0 old at rest l)
      ∙ ap (λ z. Ok (z, place old (at + length (spells (of old y) old)) rest)) t.1;
  out = λ c next y b e.
      let o = bind_out (r c) (λ v. Ok (g c.style v.0, v.1)) (y, next) e in
      let p = f.out c o.0.1 o.0.0 b o.1 in
      let q = ok_parts (g c.style o.0.0) y o.0.1 next o.2 in
      let t = here c.style p.value p.is in
      let z : g c.style (gives p.value) ≡ y = ap (λ x. g c.style x) p.given ∙ q.0 in record {
        value = y;
        is = subst Is z t.0;
        given = refl;
        bytes = p.bytes
            ∙ ap₂ (λ x (next : Cursor). spells x c.style ++ next.rest)
            (sym t.1 ∙ ap (λ y. of c.style y) z) q.1;
        style = sym (ap (λ (c : Cursor). c.style) q.1) ∙ p.style;
        behind = subst (λ (c : Cursor). AreBytes c.rest) q.1 p.behind;
      };
}

-- wherever it stands
pub placed : {A B : Type 0} {q : ℕ → Cursor → Read B} {F : Form A B}
    → ((at : ℕ) → Format (q at) F) → Format (λ c. q c.at c) F
placed f = record {
  back = λ x i old at rest l. (f at).back x i old at rest l;
  out = λ c next y b e. (f c.at).out c next y b e;
}

-- the two ways of a test
pub chosen : {A B : Type 0} {r q : Cursor → Read B} (t : Bool) (F : Bool → Form A B)
    → (t ≡ true → Format r (F true)) → (t ≡ false → Format q (F false))
    → Format (λ c. if t then r c else q c) (F t)
chosen true F f g = f refl
chosen false F f g = g refl

-- ---- nothing, and a byte

pub nothing : {B : Type 0} (x : B)
    → Format (λ c. Ok (x, c)) (plain (λ (u : ⊤). x) (λ u old. []) (λ u. ⊤))
nothing x = record {
  back = λ u i old at rest l. ap (λ (n : ℕ). Ok (x, place old n rest))
      (let e : at ≡ at + 0 = omega arith in e);
  out = λ c next y b e. let q = ok_parts x y c next e in record {
    value = tt;
    is = tt;
    given = q.0;
    bytes = ap (λ (c : Cursor). c.rest) q.1;
    style = sym (ap (λ (c : Cursor). c.style) q.1);
    behind = subst (λ (c : Cursor). AreBytes c.rest) q.1 b;
  };
}

-- a value, where there is one
pub if_some : {B : Type 0} (at : ℕ) (o : Option B)
    → Format (λ c. numbered at o c) (whole (λ x old. []) (λ x. o ≡ Some x))
if_some at None = record { back = λ x i old at rest l. cc; out = λ c next y b e. cc }
if_some at (Some y) = restated (nothing y) (whole (λ x old. []) (λ x. Some y ≡ Some x))
    (λ x e. (tt, tt, same_as (let q : y ≡ x = cc in q) (λ old. refl)))
    (λ u i. (y, refl, same_as refl (λ old. refl)))

abbrev pub one : ℕ → Bytes
one b style = b ∷ []

abbrev pub IsByte : ℕ → Type 0
IsByte b = b < 256

one_byte : (t : Bool) (c next : Cursor) (x b : ℕ) (l : List ℕ)
    → c.rest ≡ x ∷ l → AreBytes (x ∷ l) → (if t then fault {A = ℕ × Cursor} TooLong 17592186044416
    else Ok (x, place c.style (c.at + 1) l)) ≡ Ok (b, next) → Stands (whole one IsByte) c next b
one_byte true c next x b l q h e = cc
one_byte false c next x b l q h e =
    let z = ok_parts x b (place c.style (c.at + 1) l) next e in
    let r : l ≡ next.rest = ap (λ (c : Cursor). c.rest) z.1 in record {
      value = x;
      is = h.0;
      given = z.0;
      bytes = q ∙ ap (λ (l : List ℕ). x ∷ l) r;
      style = sym (ap (λ (c : Cursor). c.style) z.1);
      behind = subst AreBytes r h.1;
    }

first_byte : (l : List ℕ) (c next : Cursor) (b : ℕ) → c.rest ≡ l → AreBytes l
    → next_byte c.style c.at l ≡ Ok (b, next) → Stands (whole one IsByte) c next b
first_byte [] c next b q h e = cc
first_byte (x ∷ l) c next b q h e = one_byte (nat_le 17592186044416 c.at) c next x b l q h e

pub byte_back : (b : ℕ) (old : Style) → ReadsTo old old byte_at (b ∷ []) b
unfolding byte_at
byte_back b old at rest l =
    let s : nat_le 17592186044416 at ≡ false = grind (arith, l) in rw s refl

pub byte : Format byte_at (whole one IsByte)
unfolding byte_at
byte = record {
  back = λ b i old. byte_back b old;
  out = λ c next b bytes e. first_byte c.rest c next b refl bytes e;
}

-- ---- a tag, and what it stands before

-- what is read behind the tag, together with it
pub record Ways {B : Type 0} (spells : B → Bytes) (Is : B → Type 0) (tag : ℕ)
    (r : Cursor → Read B) : Type 0 where
  pub out : (c next : Cursor) (y : B) → AreBytes c.rest → r c ≡ Ok (y, next)
      → Is y × (tag ∷ c.rest ≡ spells y c.style ++ next.rest) × (next.style ≡ c.style)
      × AreBytes next.rest

-- no further way
pub no_way : {B : Type 0} {spells : B → Bytes} {Is : B → Type 0} (tag : ℕ) (kind : CertKind)
    (at : ℕ) → Ways spells Is tag (λ c. fault kind at)
no_way tag kind at = record { out = λ c next y b e. cc }

-- a way that stands open to one tag
pub way : {A B : Type 0} {spells : B → Bytes} {Is : B → Type 0} {tag : ℕ}
    {r q : Cursor → Read B} (k : ℕ) {gives : A → B} {body : A → Bytes} {P : A → Type 0}
    → Format r (plain gives body P)
    → ((x : A) (old : Style) → k ∷ body x old ≡ spells (gives x) old)
    → ((x : A) → P x → Is (gives x)) → Ways spells Is tag q
    → Ways spells Is tag (λ c. if tag == k then r c else q c)
way {B = B} {spells = spells} {Is = Is} {tag = tag} {r = r} {q = q} k {gives = gives} f same is
    others = record { out = λ c next y b e. by (tag == k) refl c next y b e }
  where
    by : (t : Bool) → (tag == k) ≡ t → (c next : Cursor) (y : B) → AreBytes c.rest
        → (if t then r c else q c) ≡ Ok (y, next)
        → Is y × (tag ∷ c.rest ≡ spells y c.style ++ next.rest) × (next.style ≡ c.style)
        × AreBytes next.rest
    by true t c next y b e = let s = f.out c next y b e in (
      subst Is s.given (is s.value s.is),
      ap₂ (λ (n : ℕ) (l : List ℕ). n ∷ l) (eqb-true tag k t) s.bytes
          ∙ ap (λ (l : List ℕ). l ++ next.rest) (same s.value c.style)
          ∙ ap (λ y. spells y c.style ++ next.rest) s.given,
      s.style,
      s.behind,
    )
    by false t c next y b e = others.out c next y b e

-- What is spelled of a value is read by its tag.
abbrev pub Told : {B : Type 0} → (ℕ → ℕ → Cursor → Read B) → (B → Bytes) → B → Type 0
Told by spells y = (old : Style)
    → ReadsTo old old (λ c. byte_at c >>= λ v. by c.at v.0 v.1) (spells y old) y

-- what the tag before it makes of a value
pub told : {A B : Type 0} (by : ℕ → ℕ → Cursor → Read B) (k : ℕ) {gives : A → B}
    {body : A → Bytes} {P : A → Type 0} → ((at : ℕ) → Format (by at k) (plain gives body P))
    → (x : A) → P x → (old : Style)
    → ReadsTo old old (λ c. byte_at c >>= λ v. by c.at v.0 v.1) (k ∷ body x old) (gives x)
told by k {gives = gives} {body = body} f x i old = then_to byte_at by old old old (k ∷ [])
    (body x old) k (gives x) (byte_back k old) (λ at. (f at).back x i old)

pub tags : {B : Type 0} (by : ℕ → ℕ → Cursor → Read B) {spells : B → Bytes} {Is : B → Type 0}
    → ((y : B) → Is y → Told by spells y)
    → ((at tag : ℕ) → Ways spells Is tag (by at tag))
    → Format (λ c. byte_at c >>= λ v. by c.at v.0 v.1) (whole spells Is)
tags by {spells = spells} {Is = Is} back ways = record {
  back = back;
  out = λ c next y b e.
      let o = bind_out (byte_at c) (λ v. by c.at v.0 v.1) (y, next) e in
      let p = byte.out c o.0.1 o.0.0 b o.1 in
      let w = (ways c.at o.0.0).out o.0.1 next y p.behind o.2 in record {
        value = y;
        is = w.0;
        given = refl;
        bytes = p.bytes ∙ ap (λ (n : ℕ). n ∷ o.0.1.rest) p.given ∙ w.1
            ∙ ap (λ (old : Style). spells y old ++ next.rest) p.style;
        style = w.2 ∙ p.style;
        behind = w.3;
      };
}

-- ---- so many of a kind

-- each is one that may follow those before it
abbrev pub Follow : {D : Type 0} → (List D → D → Type 0) → List D → List D → Type 0
Follow Next before [] = ⊤
Follow Next before (d ∷ ds) = Next before d × Follow Next (before ++ d ∷ []) ds

-- so many of them
abbrev pub AreSo : {D : Type 0} → (List D → D → Type 0) → ℕ → List D → List D → Type 0
AreSo Next n before ds = (length ds ≡ n) × Follow Next before ds

-- Reading goes on one by one, behind those that were read before.
pub record GoesOn {D : Type 0} (read : ℕ → List D → Cursor → Read (List D))
    (grow : List D → Cursor → Read (List D)) (spells : D → Bytes)
    (Next : List D → D → Type 0) : Type 0 where
  pub none : (before : List D) (c : Cursor) → read 0 before c ≡ Ok (before, c)
  pub more : (n : ℕ) (before : List D) (c : Cursor)
      → read (suc n) before c ≡ (grow before c >>= λ grown. read n grown.0 grown.1)
  pub each : (before : List D)
      → Format (grow before) (plain (λ d. before ++ d ∷ []) spells (Next before))

abbrev so_many : {D : Type 0} → (D → Bytes) → (List D → D → Type 0) → ℕ → List D
    → Form (List D) (List D)
so_many spells Next n before = plain (λ ds. before ++ ds)
    (λ ds old. flat_map (λ d. spells d old) ds) (AreSo Next n before)

no_more : {D : Type 0} (spells : D → Bytes) (Next : List D → D → Type 0) (before : List D)
    (ds : List D) → AreSo Next 0 before ds → (u : ⊤) × ⊤ × IsSame (plain (λ (u : ⊤). before)
    (λ u old. []) (λ u. ⊤)) (so_many spells Next 0 before) u ds
no_more spells Next before [] i =
    (tt, tt, same_as (sym (append-nil before)) (λ old. refl))
no_more spells Next before (d ∷ ds) i = cc

one_more : {D : Type 0} (spells : D → Bytes) (Next : List D → D → Type 0) (n : ℕ) (before : List D)
    (d : D) (ds : List D) → IsSame (behind (plain (λ d. before ++ d ∷ []) spells (Next before))
    (λ d. so_many spells Next n (before ++ d ∷ []))) (so_many spells Next (suc n) before)
    (d, ds) (d ∷ ds)
one_more spells Next n before d ds = same_as (append_assoc before (d ∷ []) ds) (λ old. refl)

first_of_them : {D : Type 0} (spells : D → Bytes) (Next : List D → D → Type 0) (n : ℕ)
    (before ds : List D) → AreSo Next (suc n) before ds
    → (p : D × List D) × (Next before p.0 × AreSo Next n (before ++ p.0 ∷ []) p.1)
    × IsSame (behind (plain (λ d. before ++ d ∷ []) spells (Next before))
    (λ d. so_many spells Next n (before ++ d ∷ []))) (so_many spells Next (suc n) before) p ds
first_of_them spells Next n before [] i = cc
first_of_them spells Next n before (d ∷ ds) i = (
  (d, ds),
  (i.1.0, (cc, i.1.1)),
  one_more spells Next n before d ds,
)

pub many : {D : Type 0} {read : ℕ → List D → Cursor → Read (List D)}
    {grow : List D → Cursor → Read (List D)} {spells : D → Bytes} {Next : List D → D → Type 0}
    → GoesOn read grow spells Next → (n : ℕ) (before : List D)
    → Format (read n before) (plain (λ ds. before ++ ds)
    (λ ds old. flat_map (λ d. spells d old) ds) (AreSo Next n before))
many {spells = spells} {Next = Next} g zero before = through
    (restated (nothing before) (so_many spells Next 0 before) (no_more spells Next before)
    (λ u i. ([], (refl, tt), (no_more spells Next before [] (refl, tt)).2))) (g.none before)
many {read = read} {spells = spells} {Next = Next} g (suc n) before = through
    (restated (sequence (g.each before) (λ at grown c. read n grown c)
    (λ at d i. many g n (before ++ d ∷ []))) (so_many spells Next (suc n) before)
    (first_of_them spells Next n before)
    (λ p i. (p.0 ∷ p.1, (ap suc i.1.0, (i.0, i.1.1)), one_more spells Next n before p.0 p.1)))
    (g.more n before)
