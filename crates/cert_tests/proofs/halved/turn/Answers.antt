use Rattle.std.proofs.Common.{◌≡◌, ◌≤◌, ◌+◌, Ok, None, ap, subst, ◌∙◌, arith}
use Rattle.cert_bytes.specs.declared.item.Item.{Item}
use Rattle.cert_bytes.specs.declared.item.Item.TheVariants as item
use Rattle.cert_checker.specs.Contexts.{Context}
use Rattle.cert_checker.specs.After.{after}
use Rattle.cert_checker.specs.Standing.{Standing, Takes, TakesBehind}
use Rattle.cert_tests.proofs.halved.turn.Goals as goal

-- An item is one step or one section at most.
abbrev Grows : Context → Context → Type 0
Grows c d = (d.next ≤ c.next + 1) × (d.section ≤ c.section + 1)

grows : (c : Context) (i : Item) → Grows c (after c i)
grows c (item.Nodes n) = (omega arith, omega arith)
grows c (item.Node n) = (omega arith, omega arith)
grows c (item.Marks n) = (omega arith, omega arith)
grows c (item.Mark m) = (omega arith, omega arith)
grows c (item.Cases n) = (omega arith, omega arith)
grows c (item.Step r) = (omega arith, omega arith)
grows c (item.Cut x ps) = (omega arith, omega arith)
grows c (item.Leaf refs) = (omega arith, omega arith)
grows c (item.Dead r) = (omega arith, omega arith)
grows c item.End = (omega arith, omega arith)

record IsTaken (old new : Standing) : Type 0 where
  sound : new.fault ≡ None
  steps : new.context.next ≤ old.context.next + 1
  sections : new.context.section ≤ old.context.section + 1

taken : {X : Type 0} (old new : Standing) (i : Item) (x : X) → old.fault ≡ None
    → Takes {X = X} old i (Ok x) new → IsTaken old new
taken {X} old new i x none takes =
    let t = subst (λ f. TakesBehind {X = X} f old i (Ok x) new) none takes in
    let g = grows old.context i in
    let n = ap (λ (s : Standing). s.context.next) t.1 in
    let s = ap (λ (s : Standing). s.context.section) t.1 in
    record {
      sound = ap (λ (s : Standing). s.fault) t.1 ∙ none;
      steps = omega (arith, g.0, n);
      sections = omega (arith, g.1, s);
    }

pub returns-clause-sound : goal.returns-clause-sound
returns-clause-sound g c =
    (taken c.args.chain.now c.take.new.self c.in_ok-item.item c.in_ok-take.field-0
    c.requires.sound c.in_ok-take.ensures).sound

pub returns-clause-steps : goal.returns-clause-steps
returns-clause-steps g c =
    (taken c.args.chain.now c.take.new.self c.in_ok-item.item c.in_ok-take.field-0
    c.requires.sound c.in_ok-take.ensures).steps

pub returns-clause-sections : goal.returns-clause-sections
returns-clause-sections g c =
    (taken c.args.chain.now c.take.new.self c.in_ok-item.item c.in_ok-take.field-0
    c.requires.sound c.in_ok-take.ensures).sections
