-- What each attribute adds, from its fields at their places; and what is not looked at adds nothing.
use mathlib.Core.Path.{◌≡◌, refl, sym, ap, ◌∙◌}
use mathlib.Core.Bool.{Bool, ◌||◌}
use Prim.Native.Nat.{ℕ, zero, suc, ◌+◌, ◌/◌, ◌%◌, ◌^◌, ◌<◌, ◌≤◌}
use native.Mathlib.Omega.{arith}
use lib.Dec.{lit≤, lit<}
use Rattle.fields.specs.declared.Descriptor.{Descriptor}
use Rattle.layout.specs.declared.parts.Part.{Part}
use Rattle.fields.specs.Fields.{bits_at, modes, counts, formats, mode_of, count_of, format_of, indices_of}
use Rattle.layout.specs.Sizes.{direct_of, size_of, unknown_at, any_unknown}
use Rattle.fields.specs.Inner.{normal_indices}
use Rattle.layout.specs.Inner.{WeighedBy, ForeOf, TexturesOf}
use Rattle.layout.proofs.Tests.{size_other, any_next}
use Rattle.layout.proofs.Present.{AbsentFrom, size_none, any_absent, matrices_known, fore_absent}

-- what attribute k adds
record At (d : Descriptor) (k : ℕ) (r : Part) : Type 0 where
  pub bytes_are : r.bytes ≡ size_of d k
  pub unknown_is : r.unknown ≡ unknown_at d k

weighed : (d : Descriptor) (k : ℕ) (r : Part) → 9 ≤ k → WeighedBy k (mode_of d k) (count_of d k) (format_of d k) (indices_of d k) r
    → At d k r
unfolding unknown_at
weighed d k r h w = record { bytes_are = w.bytes_are ∙ sym (size_other d k h); unknown_is = w.unknown_is }

module _ (d : Descriptor) where
  -- the first attribute that can be in an unknown format
  first_any : (b : Bool) → b ≡ unknown_at d 9 → b ≡ any_unknown d 10
  unfolding any_unknown
  first_any b e = e ∙ sym (ap (λ (x : Bool). x || unknown_at d 9) (matrices_known d))

  -- n absent attributes past the first texture are in none
  any_none : AbsentFrom d 14 → (n : ℕ) → n ≤ 7 → any_unknown d (n + 14) ≡ any_unknown d 14
  any_none a zero h = refl
  any_none a (suc n) h =
      let e : suc n + 14 ≡ suc (n + 14) = omega arith in
      rw e (any_absent d (n + 14) (a.absent (n + 14) (omega arith) (omega arith)) ∙ any_none a n (omega arith))

  position_at_lem : (r : Part) → WeighedBy 9 (d.vcd0 / 2 ^ 9 % 4) (d.vat0 / 2 ^ 0 % 2) (d.vat0 / 2 ^ 1 % 8) 1 r → At d 9 r
  unfolding mode_of count_of format_of indices_of bits_at modes counts formats
  position_at_lem r w = weighed d 9 r (lit≤ tt) w

  normal_at : (r : Part) → WeighedBy 10 (d.vcd0 / 2 ^ 11 % 4) (d.vat0 / 2 ^ 9 % 2) (d.vat0 / 2 ^ 10 % 8) (normal_indices d.vat0) r
      → At d 10 r
  unfolding mode_of count_of format_of indices_of bits_at modes counts formats
  normal_at r w = weighed d 10 r (lit≤ tt) w

  colour0_at : (r : Part) → WeighedBy 11 (d.vcd0 / 2 ^ 13 % 4) 0 (d.vat0 / 2 ^ 14 % 8) 1 r → At d 11 r
  unfolding mode_of count_of format_of indices_of bits_at modes counts formats direct_of
  colour0_at r w = weighed d 11 r (lit≤ tt) w

  colour1_at : (r : Part) → WeighedBy 11 (d.vcd0 / 2 ^ 15 % 4) 0 (d.vat0 / 2 ^ 18 % 8) 1 r → At d 12 r
  unfolding mode_of count_of format_of indices_of bits_at modes counts formats direct_of
  colour1_at r w = weighed d 12 r (lit≤ tt) w

  texture0_at : (r : Part) → WeighedBy 13 (d.vcd1 / 2 ^ 0 % 4) (d.vat0 / 2 ^ 21 % 2) (d.vat0 / 2 ^ 22 % 8) 1 r → At d 13 r
  unfolding mode_of count_of format_of indices_of bits_at modes counts formats
  texture0_at r w = weighed d 13 r (lit≤ tt) w

  -- the attributes in group 0 of the VAT
  pub fore_of : (p n c e t : Part) → WeighedBy 9 (d.vcd0 / 2 ^ 9 % 4) (d.vat0 / 2 ^ 0 % 2) (d.vat0 / 2 ^ 1 % 8) 1 p
      → WeighedBy 10 (d.vcd0 / 2 ^ 11 % 4) (d.vat0 / 2 ^ 9 % 2) (d.vat0 / 2 ^ 10 % 8) (normal_indices d.vat0) n
      → WeighedBy 11 (d.vcd0 / 2 ^ 13 % 4) 0 (d.vat0 / 2 ^ 14 % 8) 1 c
      → WeighedBy 11 (d.vcd0 / 2 ^ 15 % 4) 0 (d.vat0 / 2 ^ 18 % 8) 1 e
      → WeighedBy 13 (d.vcd1 / 2 ^ 0 % 4) (d.vat0 / 2 ^ 21 % 2) (d.vat0 / 2 ^ 22 % 8) 1 t
      → ForeOf d (record {
        position = p.bytes;
        normal = n.bytes;
        colour0 = c.bytes;
        colour1 = e.bytes;
        texture0 = t.bytes;
        unknown = p.unknown || n.unknown || c.unknown || e.unknown || t.unknown;
      })
  fore_of p n c e t wp wn wc we wt =
      let hp = position_at_lem p wp in
      let hn = normal_at n wn in
      let hc = colour0_at c wc in
      let he = colour1_at e we in
      let ht = texture0_at t wt in
      let u10 = first_any p.unknown hp.unknown_is in
      let u11 = any_next d 10 _ _ u10 hn.unknown_is in
      let u12 = any_next d 11 _ _ u11 hc.unknown_is in
      let u13 = any_next d 12 _ _ u12 he.unknown_is in
      record {
        position_is = hp.bytes_are;
        normal_is = hn.bytes_are;
        colour0_is = hc.bytes_are;
        colour1_is = he.bytes_are;
        texture0_is = ht.bytes_are;
        unknown_is = any_next d 13 _ _ u13 ht.unknown_is;
      }

  -- without normal and colours
  pub fore_alone : (p t : Part) → WeighedBy 9 (d.vcd0 / 2 ^ 9 % 4) (d.vat0 / 2 ^ 0 % 2) (d.vat0 / 2 ^ 1 % 8) 1 p
      → WeighedBy 13 (d.vcd1 / 2 ^ 0 % 4) (d.vat0 / 2 ^ 21 % 2) (d.vat0 / 2 ^ 22 % 8) 1 t
      → d.vcd0 / 2 ^ 11 % 2 ^ 6 ≡ 0
      → ForeOf d (record {
        position = p.bytes;
        normal = 0;
        colour0 = 0;
        colour1 = 0;
        texture0 = t.bytes;
        unknown = p.unknown || t.unknown;
      })
  fore_alone p t wp wt z =
      let hp = position_at_lem p wp in
      let ht = texture0_at t wt in
      let m : (k : ℕ) → 10 ≤ k → k < 13 → mode_of d k ≡ 0 = fore_absent d z in
      let m10 = m 10 (lit≤ tt) (lit< tt) in
      let m11 = m 11 (lit≤ tt) (lit< tt) in
      let m12 = m 12 (lit≤ tt) (lit< tt) in
      let u10 = first_any p.unknown hp.unknown_is in
      record {
        position_is = hp.bytes_are;
        normal_is = sym (size_none d 10 m10);
        colour0_is = sym (size_none d 11 m11);
        colour1_is = sym (size_none d 12 m12);
        texture0_is = ht.bytes_are;
        unknown_is =
            any_next d 13 _ _ (u10 ∙ sym (any_absent d 10 m10) ∙ sym (any_absent d 11 m11) ∙ sym (any_absent d 12 m12))
            ht.unknown_is;
      }

  -- the other textures
  pub textures_of : (found : Bool) (b c e f g h i : Part) → found ≡ any_unknown d 14
      → WeighedBy 13 (d.vcd1 / 2 ^ 2 % 4) (d.vat1 / 2 ^ 0 % 2) (d.vat1 / 2 ^ 1 % 8) 1 b
      → WeighedBy 13 (d.vcd1 / 2 ^ 4 % 4) (d.vat1 / 2 ^ 9 % 2) (d.vat1 / 2 ^ 10 % 8) 1 c
      → WeighedBy 13 (d.vcd1 / 2 ^ 6 % 4) (d.vat1 / 2 ^ 18 % 2) (d.vat1 / 2 ^ 19 % 8) 1 e
      → WeighedBy 13 (d.vcd1 / 2 ^ 8 % 4) (d.vat1 / 2 ^ 27 % 2) (d.vat1 / 2 ^ 28 % 8) 1 f
      → WeighedBy 13 (d.vcd1 / 2 ^ 10 % 4) (d.vat2 / 2 ^ 5 % 2) (d.vat2 / 2 ^ 6 % 8) 1 g
      → WeighedBy 13 (d.vcd1 / 2 ^ 12 % 4) (d.vat2 / 2 ^ 14 % 2) (d.vat2 / 2 ^ 15 % 8) 1 h
      → WeighedBy 13 (d.vcd1 / 2 ^ 14 % 4) (d.vat2 / 2 ^ 23 % 2) (d.vat2 / 2 ^ 24 % 8) 1 i
      → TexturesOf d (record {
        texture1 = b.bytes;
        texture2 = c.bytes;
        texture3 = e.bytes;
        texture4 = f.bytes;
        texture5 = g.bytes;
        texture6 = h.bytes;
        texture7 = i.bytes;
        unknown = found || b.unknown || c.unknown || e.unknown || f.unknown || g.unknown || h.unknown || i.unknown;
      })
  unfolding mode_of count_of format_of indices_of bits_at modes counts formats direct_of
  textures_of found b c e f g h i u0 wb wc we wf wg wh wi =
      let hb = weighed d 14 b (lit≤ tt) wb in
      let hc = weighed d 15 c (lit≤ tt) wc in
      let he = weighed d 16 e (lit≤ tt) we in
      let hf = weighed d 17 f (lit≤ tt) wf in
      let hg = weighed d 18 g (lit≤ tt) wg in
      let hh = weighed d 19 h (lit≤ tt) wh in
      let hi = weighed d 20 i (lit≤ tt) wi in
      let u1 = any_next d 14 _ _ u0 hb.unknown_is in
      let u2 = any_next d 15 _ _ u1 hc.unknown_is in
      let u3 = any_next d 16 _ _ u2 he.unknown_is in
      let u4 = any_next d 17 _ _ u3 hf.unknown_is in
      let u5 = any_next d 18 _ _ u4 hg.unknown_is in
      let u6 = any_next d 19 _ _ u5 hh.unknown_is in
      record {
        texture1_is = hb.bytes_are;
        texture2_is = hc.bytes_are;
        texture3_is = he.bytes_are;
        texture4_is = hf.bytes_are;
        texture5_is = hg.bytes_are;
        texture6_is = hh.bytes_are;
        texture7_is = hi.bytes_are;
        unknown_is = any_next d 20 _ _ u6 hi.unknown_is;
      }

  -- none of them
  pub textures_none : (found : Bool) → found ≡ any_unknown d 14 → AbsentFrom d 14
      → TexturesOf d (record {
        texture1 = 0;
        texture2 = 0;
        texture3 = 0;
        texture4 = 0;
        texture5 = 0;
        texture6 = 0;
        texture7 = 0;
        unknown = found;
      })
  textures_none found u0 a =
      let m : (k : ℕ) → 14 ≤ k → k < 21 → 0 ≡ size_of d k = λ k g h. sym (size_none d k (a.absent k g h)) in
      record {
        texture1_is = m 14 (lit≤ tt) (lit< tt);
        texture2_is = m 15 (lit≤ tt) (lit< tt);
        texture3_is = m 16 (lit≤ tt) (lit< tt);
        texture4_is = m 17 (lit≤ tt) (lit< tt);
        texture5_is = m 18 (lit≤ tt) (lit< tt);
        texture6_is = m 19 (lit≤ tt) (lit< tt);
        texture7_is = m 20 (lit≤ tt) (lit< tt);
        unknown_is = u0 ∙ sym (any_none a 7 (omega arith));
      }
