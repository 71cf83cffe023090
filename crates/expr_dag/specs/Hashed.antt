-- How nodes are hashed.
use Rattle.std.specs.Prelude.{◌++◌}
use Rattle.std.specs.Hash as fed
use Rattle.fx_model.specs.declared.Node.{Node}
use Rattle.fx_model.specs.declared.Node.TheVariants.{Var, Lit, Neg, Add, Sub, Mul, Div, Abs, Round}

-- what is written into a hasher for a node: its kind, and what it is made of
abbrev pub hashed : Node → fed.HashWrites
hashed (Var n) = fed.u8 0 ++ fed.u16 n
hashed (Lit l) = fed.u8 1 ++ fed.u128 l.num ++ fed.i32 l.two ++ fed.i32 l.ten
hashed (Neg x) = fed.u8 2 ++ fed.u16 x.0
hashed (Add x y) = fed.u8 3 ++ fed.u16 x.0 ++ fed.u16 y.0
hashed (Sub x y) = fed.u8 4 ++ fed.u16 x.0 ++ fed.u16 y.0
hashed (Mul x y) = fed.u8 5 ++ fed.u16 x.0 ++ fed.u16 y.0
hashed (Div x y) = fed.u8 6 ++ fed.u16 x.0 ++ fed.u16 y.0
hashed (Abs x) = fed.u8 7 ++ fed.u16 x.0
hashed (Round r x) = fed.u8 8 ++ fed.i16 r.lsb ++ fed.u16 x.0
