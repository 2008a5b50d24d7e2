-- The tables are what the definitions compute. Assumes nothing.
use Rattle.std.proofs.Common.{◌≡◌, refl}
use lib.Ieee.{fits, to_bits, eq, size}
use Rattle.std.specs.Float.{float_is_finite, is_sign_negative}
use Rattle.kinds.specs.Numbers.{accepted, plain, tidied_number, pattern}
use Rattle.packing.specs.Fields.{pack_field}
use Rattle.packing.specs.Cells.{pack_cell}
use Rattle.images.specs.Layout.{image_of}
use Rattle.store.specs.Calls.{cause_of, effect}
use Rattle.collector.specs.Steps.{stepped, march}
use Rattle.collector.specs.Collections.{act_cause}
use Rattle.runs.specs.Worlds.{after, run}
use Rattle.run_examples.specs.Rows.{answers_of, computed_table, table}
use Rattle.run_examples.specs.Longer.{computed_longer, longer}

pub all_shown : computed_table ≡ table
unfolding after run answers_of fits to_bits eq size float_is_finite is_sign_negative accepted plain tidied_number pattern pack_field pack_cell image_of cause_of effect stepped march act_cause
all_shown = refl

pub longer_shown : computed_longer ≡ longer
unfolding after run answers_of pack_field pack_cell image_of cause_of effect stepped march act_cause
longer_shown = refl
