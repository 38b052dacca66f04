-- What the calls that tell numbers leave, for all inputs: the number and each answer, by `model`'s definitions on bytes.
use Rattle.std.specs.Prelude.{ℕ, ◌≡◌, List}
use Rattle.words.specs.Lent.{Lent}
use Rattle.model.specs.OnBytes.{number_of, after}
use Rattle.model.specs.Views.{sizes_bytes, used_bytes, volume_bytes}

-- r is what the call returns
pub record SizesTold (b : Lent (List ℕ)) (n l s j : Lent ℕ) (r : ℕ) : Type 0 where
  pub number : r ≡ number_of (sizes_bytes b.entry.now)
  pub blocks : n.exit.now ≡ after (λ z. z.n) (sizes_bytes b.entry.now) n.entry.now
  pub cells : l.exit.now ≡ after (λ z. z.l) (sizes_bytes b.entry.now) l.entry.now
  pub slots : s.exit.now ≡ after (λ z. z.s) (sizes_bytes b.entry.now) s.entry.now
  pub records : j.exit.now ≡ after (λ z. z.j) (sizes_bytes b.entry.now) j.entry.now

pub record UsedTold (b : Lent (List ℕ)) (s u d : Lent ℕ) (r : ℕ) : Type 0 where
  pub number : r ≡ number_of (used_bytes b.entry.now)
  pub slots : s.exit.now ≡ after (λ w. w.slots) (used_bytes b.entry.now) s.entry.now
  pub records : u.exit.now ≡ after (λ w. w.records) (used_bytes b.entry.now) u.entry.now
  pub day : d.exit.now ≡ after (λ w. w.day) (used_bytes b.entry.now) d.entry.now

pub record VolumeTold (b : Lent (List ℕ)) (v : ℕ) (k n t : Lent ℕ) (r : ℕ) : Type 0 where
  pub number : r ≡ number_of (volume_bytes b.entry.now v)
  pub retention : k.exit.now ≡ after (λ w. w.retention) (volume_bytes b.entry.now v) k.entry.now
  pub backups : n.exit.now ≡ after (λ w. w.backups) (volume_bytes b.entry.now v) n.entry.now
  pub retired : t.exit.now ≡ after (λ w. w.retired) (volume_bytes b.entry.now v) t.entry.now
