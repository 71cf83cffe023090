-- Each step keeps the rule of a lane.
use mathlib.Core.Option.{some, some-ne-none}
use lib.ListN.{get_elem?}
use Rattle.std.proofs.Common.{◌≡◌, ◌≢◌, ◌==◌, ◌⊎◌, ℕ, zero, suc, ◌+◌, ◌<◌, ◌≤◌, true, true≢false}
use Rattle.std.proofs.Common.{cond, List, [], ◌∷◌, ◌++◌, length, map, set, slice_index_or, sym}
use Rattle.std.proofs.Common.{refl, ap, ◌∙◌, subst, inl, inr, ⊎_elim, append_assoc, length-append}
use Rattle.std.proofs.Common.{arith}
use Rattle.std.proofs.lemmas.List.Elements.{All-push}
use Rattle.crossbeam_deque.specs.Tasks.{Pushes, Takes, Finds, FindsFew, Blocks, Forks, Merges}
use Rattle.crossbeam_deque.specs.Tasks.{Learns}
use Rattle.crossbeam_deque.proofs.Lists.{at_set}
use Rattle.box_deques.specs.declared.rule.View.{View}
use Rattle.box_deques.specs.Views.{Take, owner, spent, guest, pushing, taking, lending, taking_back}
use Rattle.box_deques.specs.Rule.{Gone, taken_by, paths_of, Fits, Kept, Waits, Takes1, Adds, Tells}
use Rattle.box_deques.specs.Rule.{Alone, Fitting, WasEmpty}
use Rattle.box_deques.proofs.Parties.{is_it, isnt_it, taken_by_same, taken_by_other, taken_by_none}
use Rattle.box_deques.proofs.Parties.{taken_by_few}

abbrev Each : (ℕ → View → Type 0) → List View → Type 0
Each F views = (port : ℕ) (v : View) → get_elem? views port ≡ some v → v.live ≡ true → F port v

each_set : (F : ℕ → View → Type 0) (views : List View) (port : ℕ) (w : View)
    → (w.live ≡ true → F port w) → ((j : ℕ) (u : View) → j ≢ port → get_elem? views j ≡ some u
    → u.live ≡ true → F j u) → Each F (set views port w)
each_set F views port w mine others j u e live = ⊎_elim (λ (x : (j ≡ port) × (w ≡ u)).
    subst (λ (y : ℕ × View). y.1.live ≡ true → F y.0 y.1) (λ i. (sym x.0 i, x.1 i)) mine live)
    (λ (x : (j ≢ port) × (get_elem? views j ≡ some u)). others j u x.0 x.1 live)
    (at_set views port j w u e)

paths_more : (h : List Gone) (e : Gone) → paths_of (h ++ e ∷ []) ≡ paths_of h ++ e.1 ∷ []
paths_more [] e = refl
paths_more (x ∷ h) e = ap (λ (l : List (List ℕ)). x.1 ∷ l) (paths_more h e)

length_more : (h : List Gone) (e : Gone) → length (h ++ e ∷ []) ≡ length h + 1
length_more [] e = refl
length_more (x ∷ h) e = let ih = length_more h e in omega arith

at_new : (l : List View) (r u : View) (j : ℕ) → get_elem? (l ++ r ∷ []) j ≡ some u
    → (get_elem? l j ≡ some u) ⊎ ((j ≡ length l) × (r ≡ u))
at_new [] r u zero e = inr (refl, cc)
at_new [] r u (suc j) e = absurd (some-ne-none u (sym e))
at_new (x ∷ l) r u zero e = inl e
at_new (x ∷ l) r u (suc j) e =
    ⊎_elim (λ h. inl h) (λ (h : (j ≡ length l) × (r ≡ u)). inr (ap suc h.0, h.1)) (at_new l r u j e)

only_first : {P : Type 0} (x u : View) (j : ℕ) → j ≢ 0 → get_elem? (x ∷ []) j ≡ some u → P
only_first x u zero other e = absurd (other refl)
only_first x u (suc j) other e = absurd (some-ne-none u (sym e))

one_more : (b : List (List Take)) (x : List Take) (n : ℕ) → n < length (b ++ x ∷ [])
    → ((n < length b) × (slice_index_or (b ++ x ∷ []) n [] ≡ slice_index_or b n []))
    ⊎ ((n ≡ length b) × (slice_index_or (b ++ x ∷ []) n [] ≡ x))
one_more [] x zero below = inr (refl, refl)
one_more [] x (suc n) below = absurd (omega arith)
one_more (y ∷ b) x zero below = inl (omega arith, refl)
one_more (y ∷ b) x (suc n) below =
    ⊎_elim (λ (h : (n < length b) × (slice_index_or (b ++ x ∷ []) n [] ≡ slice_index_or b n [])).
    inl (omega arith, h.1))
    (λ (h : (n ≡ length b) × (slice_index_or (b ++ x ∷ []) n [] ≡ x)). inr (ap suc h.0, h.1))
    (one_more b x n (omega arith))

module _ {T : Type 0} (place : T → ℕ) (path : T → List ℕ) (fits : T → Type 0) (capacity : ℕ) where
  abbrev Rule : List T → List View → Type 0
  Rule = Kept place path fits capacity

  waits_more : (n : ℕ) (ts : List T) (x : T) → Waits place path fits capacity n ts
      → place x ≡ n + length ts → fits x → Waits place path fits capacity n (ts ++ x ∷ [])
  waits_more n [] x w e f = let e' : place x ≡ n = omega arith in (e', f, tt)
  waits_more n (t ∷ ts) x w e f = let e' : place x ≡ (n + 1) + length ts = omega arith in
      (w.0, w.1, waits_more (n + 1) ts x w.2 e' f)

  map_more : (ts : List T) (x : T) → map path (ts ++ x ∷ []) ≡ map path ts ++ path x ∷ []
  map_more [] x = refl
  map_more (t ∷ ts) x = ap (λ (l : List (List ℕ)). path t ∷ l) (map_more ts x)

  map_length : (ts : List T) → length (map path ts) ≡ length ts
  map_length [] = refl
  map_length (t ∷ ts) = ap suc (map_length ts)

  paths_length : (h : List Gone) → length (paths_of h) ≡ length h
  paths_length [] = refl
  paths_length (x ∷ h) = ap suc (paths_length h)

  pub pushes : (port : ℕ) (v : View) (x : T) → v.live ≡ true
      → v.party ≡ 0 → place x ≡ length v.pushed → fits x → length v.pushed < capacity
      → Pushes Rule port v (x ∷ []) (Adds place path fits capacity v (x ∷ []))
  pushes port v x live boss at_place fit room items views k at =
      let w : View = pushing v (path x) in
      let mine = k.each port v at live in
      let own = mine.owns boss in
      let long : length k.pushed ≡ length k.history + length items = ap length k.whole ∙ omega (
        arith,
        length-append (paths_of k.history) (map path items),
        map_length items,
        paths_length k.history,
      ) in (
        w,
        record {
          history = k.history;
          pushed = k.pushed ++ path x ∷ [];
          made = k.made;
          back = k.back;
          seat = k.seat;
          whole = ap (λ l. l ++ path x ∷ []) k.whole
              ∙ append_assoc (paths_of k.history) (map path items) (path x ∷ [])
              ∙ ap (λ l. paths_of k.history ++ l) (sym (map_more items x));
          waits =
              waits_more (length k.history) items x k.waits (at_place ∙ ap length own.0 ∙ long) fit;
          room = (let e : length (k.pushed ++ path x ∷ []) ≡ length k.pushed + 1 =
              omega (arith, length-append k.pushed (path x ∷ [])) in
              let same : length v.pushed ≡ length k.pushed = ap length own.0 in omega arith);
          parties = k.parties;
          returned = k.returned;
          few = k.few;
          each =
              each_set (Fits k.seat (k.pushed ++ path x ∷ []) k.made k.back k.history) views port w
              (λ _. record {
                seated = mine.seated;
                took = mine.took;
                out = mine.out;
                known = mine.known;
                owns = λ b. (ap (λ l. l ++ path x ∷ []) own.0, own.1, own.2);
              })
              (λ j u other e l. let f = k.each j u e l in record {
                seated = f.seated;
                took = f.took;
                out = f.out;
                known = f.known;
                owns = λ b. absurd (other (f.seated ∙ ap k.seat (b ∙ sym boss) ∙ sym mine.seated));
              });
        },
        refl,
      )

  alone : (port : ℕ) (v : View) (items : List T) (views : List View) → v.live ≡ true
      → Rule items views → get_elem? views port ≡ some v → Alone v (map path items)
  alone port v items views live k at boss all =
      let mine = k.each port v at live in
      let own = mine.owns boss in
      let made : k.made ≡ length v.back = sym own.1 ∙ all in
      record {
        history = k.history;
        whole = own.0 ∙ k.whole;
        took = subst (λ n. v.takes ≡ taken_by n 0 k.history) boss mine.took;
        parties = (λ n d below. let h = k.parties n d below in omega arith);
        returned = subst (λ (b : List (List Take)). (n : ℕ) → n < length b
            → slice_index_or b n [] ≡ taken_by (n + 1) 0 k.history) (sym own.2) k.returned;
      }

  fitting : (port : ℕ) (v : View) (items : List T) (views : List View)
      → v.live ≡ true → (k : Rule items views) → get_elem? views port ≡ some v
      → Fitting v k.history (map path items)
  fitting port v items views live k at =
      let mine = k.each port v at live in
      record {
        took = mine.took;
        parties = λ boss. let own = (mine.owns boss).1 in
            λ n d below. let h = k.parties n d below in omega arith;
        whole = λ boss. (mine.owns boss).0 ∙ k.whole;
        told = alone port v items views live k at;
      }

  pub tells : (port : ℕ) (v : View) → v.live ≡ true → v.party ≡ 0 → v.made ≡ length v.back
      → Learns Rule port v (λ items. Tells v (map path items))
  tells port v live boss all items views k at = alone port v items views live k at boss all

  -- a party takes the first task
  pub takes : (port : ℕ) (v : View) → v.live ≡ true
      → Takes Rule port v 1 (Takes1 place path fits capacity v)
  takes port v live [] items views some_one few k at = absurd (omega arith)
  takes port v live (x ∷ y ∷ xs) items views some_one few k at = absurd (omega arith)
  takes port v live (x ∷ []) items views some_one few k at =
      let w : View = taking v (place x) (path x) in
      let mine = k.each port v at live in
      let e : Gone = (v.party, path x) in
      let history : List Gone = k.history ++ e ∷ [] in
      let long : length history ≡ length k.history + 1 = length_more k.history e in
      let within : length k.pushed ≡ length k.history + (length items + 1) =
      ap length k.whole ∙ omega (
        arith,
        length-append (paths_of k.history) (path x ∷ map path items),
        map_length items,
        paths_length k.history,
      ) in
      let room = k.room in (
        w,
        record {
          history = history;
          pushed = k.pushed;
          made = k.made;
          back = k.back;
          seat = k.seat;
          whole = k.whole ∙ sym (append_assoc (paths_of k.history) (path x ∷ []) (map path items))
              ∙ ap (λ l. l ++ map path items) (sym (paths_more k.history e));
          waits = subst (λ n. Waits place path fits capacity n items) (sym long) k.waits.2;
          room = k.room;
          parties = All-push (λ (g : Gone). g.0 ≤ k.made) k.history e k.parties mine.known;
          returned = λ n below. let no : v.party ≢ n + 1 =
              λ is. ⊎_elim (λ z. absurd (omega arith)) (λ lt. absurd (omega arith)) mine.out in
              k.returned n below ∙ sym (taken_by_other (n + 1) v.party 0 k.history (path x) no);
          few = k.few;
          each = each_set (Fits k.seat k.pushed k.made k.back history) views port w
              (λ _. record {
                seated = mine.seated;
                took = ap (λ l. l ++ (place x, path x) ∷ []) mine.took
                    ∙ ap (λ n. taken_by v.party 0 k.history ++ (n, path x) ∷ [])
                    (k.waits.0 ∙ omega arith) ∙ sym (taken_by_same v.party 0 k.history (path x));
                out = mine.out;
                known = mine.known;
                owns = mine.owns;
              })
              (λ j u other at' l. let f = k.each j u at' l in let no : v.party ≢ u.party =
              λ is. other (f.seated ∙ ap k.seat (sym is) ∙ sym mine.seated) in
              record {
                seated = f.seated;
                took = f.took ∙ sym (taken_by_other u.party v.party 0 k.history (path x) no);
                out = f.out;
                known = f.known;
                owns = f.owns;
              });
        },
        (
          refl,
          k.waits.1,
          (let len = ap length mine.took in let n = taken_by_few v.party 0 k.history in
              let here = k.waits.0 in omega arith),
          (let here = k.waits.0 in omega arith),
          (k.history, map path items, k.waits.0, fitting port v (x ∷ items) views live k at),
        ),
      )

  pub finds : (port : ℕ) (v : View) → v.live ≡ true → Finds Rule port v (WasEmpty v)
  finds port v live views k at = (k.history, fitting port v [] views live k at)

  pub finds_few : (n port : ℕ) (v : View) → v.live ≡ true → n ≡ 0
      → FindsFew Rule n port v (WasEmpty v)
  finds_few n port v live none [] views few k at = finds port v live views k at
  finds_few n port v live none (x ∷ xs) views few k at = absurd (omega arith)

  -- the owner makes a pass for the next hand
  pub forks : (port : ℕ) (v : View) → v.live ≡ true → v.party ≡ 0
      → Forks Rule port v (lending v) (guest v.made)
  forks port v live boss items views k at =
      let l : View = lending v in
      let r : View = guest v.made in
      let mine = k.each port v at live in
      let own = mine.owns boss in
      let vs : List View = set views port l in
      let seat : ℕ → ℕ = λ b. cond (b == k.made + 1) (length vs) (k.seat b) in
      let F : ℕ → View → Type 0 = Fits seat k.pushed (k.made + 1) k.back k.history in
      let old : (b : ℕ) → b ≤ k.made
      → k.seat b ≡ seat b = λ b few. rw (isnt_it b (k.made + 1) (omega arith)) refl in
      let kept : Each F vs = each_set F views port l
      (λ _. record {
        seated = mine.seated ∙ old v.party mine.known;
        took = mine.took;
        out = mine.out;
        known = (let h = mine.known in omega arith);
        owns = λ b. (own.0, ap (λ n. n + 1) own.1, own.2);
      })
      (λ j u other e l. let f = k.each j u e l in record {
        seated = f.seated ∙ old u.party f.known;
        took = f.took;
        out = f.out;
        known = (let h = f.known in omega arith);
        owns = λ b. absurd (other (f.seated ∙ ap k.seat (b ∙ sym boss) ∙ sym mine.seated));
      }) in
      record {
        history = k.history;
        pushed = k.pushed;
        made = k.made + 1;
        back = k.back;
        seat = seat;
        whole = k.whole;
        waits = k.waits;
        room = k.room;
        parties = λ n d below. let h = k.parties n d below in omega arith;
        returned = k.returned;
        few = (let h = k.few in omega arith);
        each = λ j u e live'. ⊎_elim (λ x. kept j u x live')
            (λ (is : (j ≡ length vs) × (r ≡ u)). subst (λ u'. F j u') is.1 (record {
              seated = is.0 ∙ rw (ap (λ n. n + 1) own.1) (rw (is_it (k.made + 1)) refl);
              took = sym (rw (ap (λ n. n + 1) own.1)
                  (taken_by_none (k.made + 1) k.made 0 k.history (omega arith) k.parties));
              out = inr (let h = k.few in let m = own.1 in omega arith);
              known = (let m = own.1 in omega arith);
              owns = λ z. absurd (omega arith);
            })) (at_new vs r u j e);
      }

  -- the pass of the next hand comes back to the owner
  pub merges : (port : ℕ) (v : View) (other : ℕ) (u : View)
      → v.live ≡ true → v.party ≡ 0 → u.live ≡ true → u.party ≡ length v.back + 1
      → Merges Rule port v other u (taking_back v u) spent
  merges port v other u live boss live' next items views k at two at' =
      let w : View = taking_back v u in
      let mine = k.each port v at live in
      let own = mine.owns boss in
      let vs : List View = set views port w in
      let was : get_elem? views other ≡ some u =
      ⊎_elim (λ x. absurd (two x.0)) (λ x. x.1) (at_set views port other w u at') in
      let theirs = k.each other u was live' in
      let back : List (List Take) = k.back ++ u.takes ∷ [] in
      let more : length back ≡ length k.back + 1 =
      omega (arith, length-append k.back (u.takes ∷ [])) in
      let same : length v.back ≡ length k.back = ap length own.2 in
      let F : ℕ → View → Type 0 = Fits k.seat k.pushed k.made back k.history in
      let G : ℕ → View → Type 0 = λ j y. j ≢ other → F j y in
      let now : Each G vs = each_set G views port w
      (λ _ _. record {
        seated = mine.seated;
        took = mine.took;
        out = inl boss;
        known = mine.known;
        owns = λ b. (own.0, own.1, ap (λ l. l ++ u.takes ∷ []) own.2);
      })
      (λ j y far e l apart. let f = k.each j y e l in
      let no : y.party ≢ u.party = λ is. apart (f.seated ∙ ap k.seat is ∙ sym theirs.seated) in
      record {
        seated = f.seated;
        took = f.took;
        out = ⊎_elim (λ z. inl z) (λ lt. inr (omega arith)) f.out;
        known = f.known;
        owns = λ b. absurd (far (f.seated ∙ ap k.seat (b ∙ sym boss) ∙ sym mine.seated));
      }) in
      record {
        history = k.history;
        pushed = k.pushed;
        made = k.made;
        back = back;
        seat = k.seat;
        whole = k.whole;
        waits = k.waits;
        room = k.room;
        parties = k.parties;
        returned = λ n below. ⊎_elim
            (λ (h : (n < length k.back) × (slice_index_or back n [] ≡ slice_index_or k.back n [])).
            h.1 ∙ k.returned n h.0)
            (λ (h : (n ≡ length k.back) × (slice_index_or back n [] ≡ u.takes)). let is : u.party
            ≡ n + 1 = omega arith in h.1 ∙ theirs.took ∙ ap (λ b. taken_by b 0 k.history) is)
            (one_more k.back u.takes n below);
        few = (let h = theirs.known in omega arith);
        each = each_set F vs other spent (λ no. absurd (true≢false (sym no)))
            (λ j y apart e l. now j y e l apart);
      }

  pub begins : Rule [] (owner ∷ [])
  begins = record {
    history = [];
    pushed = [];
    made = 0;
    back = [];
    seat = λ _. 0;
    whole = refl;
    waits = tt;
    room = omega arith;
    parties = λ n d below. absurd (omega arith);
    returned = λ n below. absurd (omega arith);
    few = omega arith;
    each = each_set (Fits (λ _. 0) [] 0 [] []) (owner ∷ []) 0 owner (λ _. record {
      seated = refl;
      took = refl;
      out = inl refl;
      known = omega arith;
      owns = λ _. (refl, refl, refl);
    })
        (λ j u other e l. only_first owner u j other e);
  }

  pub blocks : (port : ℕ) (v : View) (n : ℕ) → Blocks Rule n port v (Unit {0})
  blocks port v n items views full k at = tt
