use Rattle.cpg_history.proofs.parcels.Parcel.again.Given as goal

-- the number that the parcel has
abbrev pub ghosts-again_as : goal.ghosts-again_as
ghosts-again_as g a = record { number = a.self.now.number }
