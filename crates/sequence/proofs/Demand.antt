-- Demand 3, all of its parts in one theorem.
use Rattle.patch.proofs.Algebra.{merged_assoc, merged_accepted}
use Rattle.patchwriter.proofs.Execution.{merged_all_accepted}
use Rattle.patchwriter.specs.Commands.{commands_of_all}
use Rattle.sequence.specs.Promise.{PatchesInRow}
use Rattle.sequence.specs.Exist.{calls_of}
use Rattle.sequence.proofs.Promise.{promise, units_answered, either_order}
use Rattle.sequence.proofs.Exist.{calls_exist}
use Rattle.sequence.proofs.Begins.{first_start}

pub patches_in_row : PatchesInRow
patches_in_row =
    record {
      promised = promise;
      units_are = units_answered;
      either_way = merged_assoc;
      stays_accepted = merged_accepted;
      whole_accepted = merged_all_accepted;
      either_order = either_order;
      begins = first_start;
      delivered = λ w st ps oks. record { calls = calls_of (commands_of_all ps); delivers = calls_exist w st ps oks };
    }
