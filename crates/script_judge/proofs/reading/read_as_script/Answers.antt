use Rattle.std.proofs.Common.{length, sym, ap, subst, arith}
use Rattle.script_words.specs.Kept.{all_words}
use Rattle.script_shape.specs.ShapeLaw.{IsShapeOf, AreRolesOf}
use Rattle.script_judge.proofs.Roled.{have_roles}
use Rattle.script_judge.proofs.reading.read_as_script.Goals as goal

pub returns-clause-reading : goal.returns-clause-reading
returns-clause-reading c =
    let ws = all_words c.in_ok-words.words in
    let shape = c.in_ok-shape.shape in
    let taken = length shape.roles.items in
    let fits : IsShapeOf ws taken shape.whole =
    subst (λ x. IsShapeOf x taken shape.whole) c.list.ensures.words c.in_ok-shape.ensures.shape in
    let roles : AreRolesOf ws taken shape.roles.items = subst
    (λ x. AreRolesOf x taken shape.roles.items) c.list.ensures.words c.in_ok-shape.ensures.roles in
    record {
      lexed = c.in_ok-words.ensures.tokens;
      words = sym c.in_ok-words.ensures.words;
      shape = fits;
      roles = have_roles _ _ _ c.roles_are_unique.ensures fits.begins roles;
    }

pub returns-clause-taken : goal.returns-clause-taken
returns-clause-taken c =
    omega (arith, c.in_ok-shape.ensures.shape.within, ap length c.list.ensures.words)
