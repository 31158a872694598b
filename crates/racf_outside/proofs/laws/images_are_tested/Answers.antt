use Rattle.racf_outside.proofs.ImageTests.{is_image_decides}
use Rattle.racf_outside.proofs.laws.images_are_tested.Goals as goal

pub returns : goal.returns
returns c = is_image_decides
