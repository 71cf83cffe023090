-- Worked rows: texts, byte by byte.
use Rattle.std.specs.Prelude.{◌≡◌, ◌++◌, codes, refl}
use Rattle.std.specs.Fmt.{digits}
use Rattle.made_script.specs.Script.{polynomial, script_text}

of_degree_1 : script_text 1 ≡ codes "@q = fixed<-12,dn>;\ny q= 48b-6 * x + 11b-6;\n"
    ++ codes "My = 48b-6 * x + 11b-6;\n{ x in [0,1] -> y - My in ? }\n$ x in 64;\n"
unfolding digits
of_degree_1 = refl

of_degree_2 : polynomial 2 0 ≡ codes "(21b-6 * x + 48b-6) * x + 11b-6"
unfolding digits
of_degree_2 = refl

of_degree_3 : polynomial 3 0 ≡ codes "((58b-6 * x + 21b-6) * x + 48b-6) * x + 11b-6"
unfolding digits
of_degree_3 = refl
