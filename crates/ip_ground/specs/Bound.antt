-- What a ground in memory keeps of the folders that it was asked for.
--     binding_of bound
use Rattle.std.specs.Option.{option_map}
use Rattle.ip_ground.specs.Counts.{Binding}
use Rattle.ip_ground.specs.declared.bench.Bound.{Bound}

abbrev pub binding_of : Bound → Binding
binding_of bound = record { asked = bound.asked.names; folder = option_map (λ name. name.items) bound.folder }
