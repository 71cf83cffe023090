-- What holds of a result.
use Rattle.std.specs.Prelude.{Result, Ok, Err, OnOk, IfOk}

pub on_ok_map : {T E P Q : Type 0} (r : Result T E) → OnOk r P → (P → Q) → OnOk r Q
on_ok_map (Ok t) p f = f p
on_ok_map (Err e) p f = tt

pub ok_both : {T E : Type 0} {P Q R : T → Type 0} (r : Result T E) → IfOk r P → IfOk r Q
    → ((t : T) → P t → Q t → R t) → IfOk r R
ok_both (Ok t) p q f = f t p q
ok_both (Err e) p q f = tt
