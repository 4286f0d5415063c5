-- Numbers without the casts that change nothing: for every contract about numbers.
use Rattle.std.proofs.lemmas.Int.{to_z-of_z}

pub ruleset casts = (to_z-of_z)
