-- Merging and applying patches: grouping, one merged patch for two in turn, and when two patches may change places.
use mathlib.Core.Path.{◌≡◌, refl, sym, ap, ap₂, ◌∙◌}
use mathlib.Core.Logic.{◌↔◌}
use mathlib.Core.Bool.{Bool, true, false, cond, ◌&&◌, ◌||◌}
use mathlib.Core.List.{List}
use Prim.Native.Nat.{ℕ, ◌<◌}
use lib.Dec.{lit<}
use lib.Bits.{bit_or, or_lt}
use lib.ListN.{length, get_or}
use lib.Seq.{ext_get_or}
use Rattle.laws.specs.Bits.{bit}
use Rattle.laws.proofs.Bits.{bit_and_lem, bit_or_lem}
use Rattle.laws.proofs.Filled.{length_up_to, get_d_up_to}
use Rattle.laws.proofs.Front.{up_to_ext}
use Rattle.effect.specs.Effect.{masked, mask_place}
use Rattle.patch.specs.Patch.{bp_count, Patch, mask_at, number_at, IsAccepted, applied_to, merged_of, blank}
use Rattle.patch.specs.Registers.{Open, AgreeAt, Agree}
use Rattle.patch.proofs.Faults.{Sound, sound, accepted}
use Rattle.patch.proofs.Masked.{masked_bit, masked_lt, masked_none, masked_masked, masked_swap, masked_inside, or_assoc}

-- ---- register by register

module _ (r : ℕ) (l : r < bp_count) where
  pub merged_mask_lem : (a b : Patch) → mask_at (merged_of a b) r ≡ bit_or (mask_at a r) (mask_at b r)
  unfolding merged_of
  merged_mask_lem a b = get_d_up_to (λ r. bit_or (mask_at a r) (mask_at b r)) bp_count r l

  pub merged_number_lem : (a b : Patch) → number_at (merged_of a b) r ≡ masked (number_at a r) (mask_at b r) (number_at b r)
  unfolding merged_of
  merged_number_lem a b = get_d_up_to (λ r. masked (number_at a r) (mask_at b r) (number_at b r)) bp_count r l

  pub applied_at : (bp : List ℕ) (p : Patch) → get_or (applied_to bp p) r 0 ≡ masked (get_or bp r 0) (mask_at p r) (number_at p r)
  unfolding applied_to
  applied_at bp p = get_d_up_to (λ r. masked (get_or bp r 0) (mask_at p r) (number_at p r)) bp_count r l

  pub blank_mask : mask_at blank r ≡ 0
  unfolding blank
  blank_mask = get_d_up_to (λ r. 0) bp_count r l

  pub blank_number : number_at blank r ≡ 0
  unfolding blank
  blank_number = get_d_up_to (λ r. 0) bp_count r l

pub applied_size : (bp : List ℕ) (p : Patch) → length (applied_to bp p) ≡ bp_count
unfolding applied_to
applied_size bp p = length_up_to _ bp_count

-- ---- bit by bit

-- "A merge names the bits that either sheet names"
pub merged_names : (r : ℕ) → r < bp_count → (a b : Patch) (k : ℕ)
    → bit k (mask_at (merged_of a b) r) ≡ (bit k (mask_at a r) || bit k (mask_at b r))
merged_names r l a b k = ap (bit k) (merged_mask_lem r l a b) ∙ bit_or_lem k (mask_at a r) (mask_at b r)

-- "each is B's where B names it, else A's"
pub merged_bit : (r : ℕ) → r < bp_count → (a b : Patch) (k : ℕ) → k < 24
    → bit k (number_at (merged_of a b) r) ≡ cond (bit k (mask_at b r)) (bit k (number_at b r)) (bit k (number_at a r))
merged_bit r l a b k h = ap (bit k) (merged_number_lem r l a b) ∙ masked_bit k (number_at a r) (mask_at b r) (number_at b r) h

-- "and all other number bits are 0", as in every accepted patch
pub unnamed_zero : (p : Patch) → IsAccepted p → (r : ℕ) → r < bp_count → (k : ℕ) → bit k (mask_at p r) ≡ false
    → bit k (number_at p r) ≡ false
unnamed_zero p ok r l k e =
    ap (bit k) (sym ((sound p ok).inside r l)) ∙ bit_and_lem k (number_at p r) (mask_at p r)
    ∙ ap (λ (x : Bool). bit k (number_at p r) && x) e ∙ none (bit k (number_at p r))
  where
    none : (b : Bool) → (b && false) ≡ false
    none true = refl
    none false = refl

-- "BP register r is the start's outside mask r, number r inside"
pub applied_bit : (r : ℕ) → r < bp_count → (bp : List ℕ) (p : Patch) (k : ℕ) → k < 24
    → bit k (get_or (applied_to bp p) r 0) ≡ cond (bit k (mask_at p r)) (bit k (number_at p r)) (bit k (get_or bp r 0))
applied_bit r l bp p k h = ap (bit k) (applied_at r l bp p) ∙ masked_bit k (get_or bp r 0) (mask_at p r) (number_at p r) h

-- ---- the merge of accepted patches is accepted

merged_sound : (a b : Patch) → Sound a → Sound b → Sound (merged_of a b)
unfolding merged_of
merged_sound a b ha hb =
    record {
      masks_size = length_up_to _ bp_count;
      numbers_size = length_up_to _ bp_count;
      mask_mask = merged_mask_lem mask_place (lit< tt) a b ∙ ap₂ bit_or ha.mask_mask hb.mask_mask;
      mask_number =
          merged_number_lem mask_place (lit< tt) a b
          ∙ rw (ha.mask_number, hb.mask_mask, hb.mask_number) (masked_none 0 0 (lit< tt));
      small = λ r l. rw (merged_mask_lem r l a b) (or_lt 24 _ _ (ha.small r l) (hb.small r l));
      inside = λ r l. rw (merged_mask_lem r l a b, merged_number_lem r l a b)
          (masked_inside 0 (mask_at a r) (number_at a r) (mask_at b r) (number_at b r)
          (ha.small r l) (hb.small r l) (ha.inside r l) (hb.inside r l));
    }

pub merged_accepted : (a b : Patch) → IsAccepted a → IsAccepted b → IsAccepted (merged_of a b)
merged_accepted a b ha hb = accepted (merged_of a b) (merged_sound a b (sound a ha) (sound b hb))

pub blank_accepted : IsAccepted blank
unfolding blank
blank_accepted =
    accepted blank (record {
      masks_size = length_up_to _ bp_count;
      numbers_size = length_up_to _ bp_count;
      mask_mask = blank_mask mask_place (lit< tt);
      mask_number = blank_number mask_place (lit< tt);
      small = λ r l. rw (blank_mask r l) (lit< tt);
      inside = λ r l. rw (blank_mask r l) refl;
    })

-- ---- "Grouping three accepted sheets either way merges to the same masks and numbers."

pub merged_assoc : (a b c : Patch) → IsAccepted a → IsAccepted b → IsAccepted c
    → merged_of (merged_of a b) c ≡ merged_of a (merged_of b c)
unfolding merged_of
merged_assoc a b c pa pb pc =
    let ha = sound a pa in
    let hb = sound b pb in
    let hc = sound c pc in
    λ i.
    record {
      masks =
          up_to_ext (λ r. bit_or (mask_at (merged_of a b) r) (mask_at c r)) (λ r. bit_or (mask_at a r) (mask_at (merged_of b c) r)) bp_count
          (λ r l. rw (merged_mask_lem r l a b, merged_mask_lem r l b c) (or_assoc _ _ _ (ha.small r l) (hb.small r l) (hc.small r l))) i;
      numbers =
          up_to_ext (λ r. masked (number_at (merged_of a b) r) (mask_at c r) (number_at c r))
          (λ r. masked (number_at a r) (mask_at (merged_of b c) r) (number_at (merged_of b c) r)) bp_count
          (λ r l. rw (merged_number_lem r l a b, merged_mask_lem r l b c, merged_number_lem r l b c)
          (sym
          (masked_masked (number_at a r) (mask_at b r) (number_at b r) (mask_at c r) (number_at c r) (hb.small r l) (hc.small r l)))) i;
    }

-- ---- a merged patch is the two in turn

pub applied_merged : (bp : List ℕ) (a b : Patch) → IsAccepted a → IsAccepted b
    → applied_to bp (merged_of a b) ≡ applied_to (applied_to bp a) b
unfolding applied_to
applied_merged bp a b pa pb =
    up_to_ext (λ r. masked (get_or bp r 0) (mask_at (merged_of a b) r) (number_at (merged_of a b) r))
    (λ r. masked (get_or (applied_to bp a) r 0) (mask_at b r) (number_at b r)) bp_count
    (λ r l. rw (merged_mask_lem r l a b, merged_number_lem r l a b, applied_at r l bp a)
    (masked_masked (get_or bp r 0) (mask_at a r) (number_at a r) (mask_at b r) (number_at b r)
    ((sound a pa).small r l) ((sound b pb).small r l)))

-- applying leaves open registers open, and the blank patch all as they were
pub applied_open : (bp : List ℕ) (p : Patch) → IsAccepted p → Open bp → Open (applied_to bp p)
applied_open bp p ok g =
    let s = sound p ok in
    record {
      size = applied_size bp p;
      wide = λ r l. rw (applied_at r l bp p) (masked_lt _ _ _ (s.small r l));
      unmasked =
          applied_at mask_place (lit< tt) bp p
          ∙ rw s.mask_mask (masked_none (get_or bp mask_place 0) _ (g.wide mask_place (lit< tt)) ∙ g.unmasked);
    }

pub applied_blank : (bp : List ℕ) → Open bp → applied_to bp blank ≡ bp
applied_blank bp g =
    ext_get_or 0 (applied_to bp blank) bp (applied_size bp blank ∙ sym g.size)
    (λ r h. let l : r < bp_count = rw (applied_size bp blank) at h in
    applied_at r l bp blank ∙ rw (blank_mask r l) (masked_none (get_or bp r 0) _ (g.wide r l)))

-- ---- two patches may change places exactly when they agree

pub applied_swap : (bp : List ℕ) (a b : Patch) → IsAccepted a → IsAccepted b
    → (applied_to (applied_to bp a) b ≡ applied_to (applied_to bp b) a) ↔ Agree a b
applied_swap bp a b pa pb = (
  (λ e r l. (sides r l).0 (ap (λ (x : List ℕ). get_or x r 0) e)),
  (λ g. ext_get_or 0 (applied_to (applied_to bp a) b) (applied_to (applied_to bp b) a)
      (applied_size (applied_to bp a) b ∙ sym (applied_size (applied_to bp b) a))
      (λ r h. let l : r < bp_count = rw (applied_size (applied_to bp a) b) at h in (sides r l).1 (g r l))),
)
  where
    sides : (r : ℕ) → r < bp_count
        → (get_or (applied_to (applied_to bp a) b) r 0 ≡ get_or (applied_to (applied_to bp b) a) r 0)
        ↔ AgreeAt (mask_at a r) (number_at a r) (mask_at b r) (number_at b r)
    sides r l =
        rw (applied_at r l (applied_to bp a) b, applied_at r l (applied_to bp b) a, applied_at r l bp a, applied_at r l bp b)
        (masked_swap (get_or bp r 0) (mask_at a r) (number_at a r) (mask_at b r) (number_at b r)
        ((sound a pa).small r l) ((sound b pb).small r l))
