-- What the rules ask of a kind of access. Rules 7.6 to 7.8 of docs/HART.md.
use Rattle.std.specs.Prelude.{Bool, true, false}
use Rattle.isa.specs.declared.Kind.TheVariants.{Fetch, Load, Store, Push, Pop, Swap}
use Rattle.isa.specs.declared.Kind.{Kind}

abbrev pub is_shadow_of : Kind → Bool
is_shadow_of Fetch = false
is_shadow_of Load = false
is_shadow_of Store = false
is_shadow_of Push = true
is_shadow_of Pop = true
is_shadow_of Swap = true

abbrev pub is_fetch_of : Kind → Bool
is_fetch_of Fetch = true
is_fetch_of Load = false
is_fetch_of Store = false
is_fetch_of Push = false
is_fetch_of Pop = false
is_fetch_of Swap = false

-- those that D is asked of
abbrev pub writes : Kind → Bool
writes Fetch = false
writes Load = false
writes Store = true
writes Push = true
writes Pop = false
writes Swap = true
