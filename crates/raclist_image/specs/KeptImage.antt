-- How an image is kept.
use Rattle.raclist_image.specs.declared.image.Image.TheInside.{Inside}
use Rattle.raclist_image.specs.Imaged.{Imaged}
use Rattle.racf_profiles.specs.State.{HaveCopies}
use Rattle.racf_profiles.specs.Lawful.{AreLawful}

abbrev pub imaged : Inside → Imaged
imaged image = record { state = image.state; generation = image.generation }

-- The rows are lawful, and each RACLISTed class has its listed copy.
pub record IsKept (image : Inside) : Type 0 where
  pub lawful : AreLawful image.state.rows
  pub copied : HaveCopies image.state
