-- What merging and applying do to each bit: the laws of the algebra, clause by clause.
use Rattle.patch.specs.Patch.{merged_of}
use Rattle.patch.specs.Promises.{PatchPromises}
use Rattle.patch.proofs.Algebra.{merged_names, merged_bit, unnamed_zero, applied_bit, merged_accepted, applied_open}

pub patch_promises : PatchPromises
patch_promises =
    record {
      names_either = λ a b r l k. merged_names r l a b k;
      named_by_b = λ a b r l k h e. rw (merged_bit r l a b k h, e);
      else_of_a = λ a b r l k h e. rw (merged_bit r l a b k h, e);
      others_zero = λ a b pa pb r l k e. unnamed_zero (merged_of a b) (merged_accepted a b pa pb) r l k e;
      outside = λ bp p r l k h e. rw (applied_bit r l bp p k h, e);
      inside = λ bp p r l k h e. rw (applied_bit r l bp p k h, e);
      stays_open = applied_open;
    }
