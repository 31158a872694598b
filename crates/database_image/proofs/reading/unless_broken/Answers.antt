use Rattle.std.proofs.Common.{◌≡◌, ◌+◌, length, arith}
use Rattle.std.specs.List.{sum_by}
use Rattle.database_image.specs.Facts.{classes_place, class_width}
use Rattle.database_image.specs.Image.{image_of}
use Rattle.database_image.proofs.Fitting.{distinct-groups, few-groups}
use Rattle.database_image.proofs.Images.{image-width}
use Rattle.database_image.proofs.reading.unless_broken.Goals as goal

pub first_broken-requires : goal.first_broken-requires
first_broken-requires c =
    let width : length (image_of c.args.rows) ≡ classes_place c.args.rows + sum_by class_width c.args.rows.classes = image-width c.args.rows c.requires.fields in
    record {
      distinct = distinct-groups c.args.rows c.requires.fields;
      few = few-groups c.args.rows c.requires.fields;
      room = omega (arith, width, c.requires.room);
    }
