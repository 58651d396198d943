use Rattle.std.specs.Prelude.{◌+◌}
use Rattle.cpg_history.proofs.parcels.Parcels.parcel.Given as goal

-- the frame's number among those sent
abbrev pub ghosts-parcel_as : goal.ghosts-parcel_as
ghosts-parcel_as g a = record { number = a.self.now.number + a.index }
