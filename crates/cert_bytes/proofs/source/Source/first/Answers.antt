use Rattle.std.proofs.Common.{slice_index_or, List, ℕ, sym, ap, subst, ◌∙◌}
use Rattle.cert_bytes.specs.Pieces.{Ahead, IsFirst}
use Rattle.cert_bytes.proofs.Ahead.{some_range, range_first}
use Rattle.cert_bytes.proofs.source.Source.first.Goals as goal

pub returns : goal.returns
returns c =
    let view = ap (λ (a : Ahead). a.ahead) (sym c.self.view_is) in
    let s = some_range c.self.inside.buffer c.self.inside.begin c.self.inside.end
    (λ e. c.requires.some (view ∙ e)) in
    subst (λ (l : List ℕ). IsFirst
    (slice_index_or c.self.inside.buffer c.self.inside.begin 0) l) (sym view)
    (range_first c.self.inside.buffer c.self.inside.begin c.self.inside.end s c.self.invariant.1)
