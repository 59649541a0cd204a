-- What `some_token` asks and says of the test that it is handed. Assumes nothing.
use Rattle.std.specs.Prelude.{ℕ, ◌<◌, ◌≡◌, Bool, List, length}
use Rattle.profile.specs.Profile.{some_token}

-- The test may be called at each place below n.
abbrev pub CanTest : {F : Type 0} → (F → ℕ → Type 0) → F → (n : ℕ) → Type 0
CanTest pre f n = (at : ℕ) → at < n → pre f at

-- The test tells at each place of the row whether that passes.
abbrev pub Tells : (post : ℕ → Bool → Type 0) → (kinds : List ℕ) → (ℕ → Bool) → Type 0
Tells post kinds p = (at : ℕ) → at < length kinds → (b : Bool) → post at b → b ≡ p at

-- Some place of the row passes the test.
pub record SomeTested {F : Type 0} (post : F → ℕ → Bool → Type 0) (f : F) (kinds : List ℕ) (r : Bool) : Type 0 where
  pub says : (p : ℕ → Bool) → Tells (post f) kinds p → r ≡ some_token kinds p
