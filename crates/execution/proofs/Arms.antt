-- The whole effect of each class of command: it touches one thing, and the rest stays.
use mathlib.Core.Path.{◌≡◌, refl}
use mathlib.Core.List.{List}
use Prim.Native.Nat.{ℕ}
use Rattle.command.specs.Command.{load_cp, load_xf, load_bp, vertex}
use Rattle.effect.specs.Effect.{loaded_cp, loaded_bp, loaded_xf, copied, cp_after, bp_after, xf_after, vertex_after, Applied}

module _ {bytes cp bp xf buffer : List ℕ} where
  pub by_cp : {address n : ℕ} {cp' : List ℕ} → cp' ≡ loaded_cp cp address n
      → Applied (load_cp address n) bytes cp bp xf buffer cp' bp xf buffer
  unfolding cp_after bp_after xf_after vertex_after
  by_cp e = record { cp_is = e; bp_is = refl; xf_is = refl; buffer_is = refl }

  pub by_bp : {register n : ℕ} {bp' : List ℕ} → bp' ≡ loaded_bp bp register n
      → Applied (load_bp register n) bytes cp bp xf buffer cp bp' xf buffer
  unfolding cp_after bp_after xf_after vertex_after
  by_bp e = record { cp_is = refl; bp_is = e; xf_is = refl; buffer_is = refl }

  pub by_xf : {words address : ℕ} {xf' : List ℕ} → xf' ≡ loaded_xf xf bytes words address
      → Applied (load_xf words address) bytes cp bp xf buffer cp bp xf' buffer
  unfolding cp_after bp_after xf_after vertex_after
  by_xf e = record { cp_is = refl; bp_is = refl; xf_is = e; buffer_is = refl }

  pub by_vertex : {buffer' : List ℕ} → buffer' ≡ copied bytes buffer
      → Applied vertex bytes cp bp xf buffer cp bp xf buffer'
  unfolding cp_after bp_after xf_after vertex_after
  by_vertex e = record { cp_is = refl; bp_is = refl; xf_is = refl; buffer_is = e }
