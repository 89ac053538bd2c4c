-- The parts of an option that has a value.
use Rattle.std.proofs.Common.{◌≡◌, Bool, true, false, cond, not, is_none, is_some, Option, Some, None, option_map, option_and_then, refl}

-- the option has a value x, and f x has the value y
pub record AndThen {A B : Type 0} (f : A → Option B) (o : Option A) (y : B) : Type 0 where
  pub x : A
  pub is : o ≡ Some x
  pub then : f x ≡ Some y

-- if `option_and_then` gives a value, the option has one, and so has the function there
pub and-then : {A B : Type 0} (f : A → Option B) (o : Option A) (y : B) → option_and_then f o ≡ Some y → AndThen f o y
and-then f None y is = absurd (cc)
and-then f (Some x) y is = record { x = x; is = refl; then = is }

-- the option has a value x, and f x is y
pub record Mapped {A B : Type 0} (f : A → B) (o : Option A) (y : B) : Type 0 where
  pub x : A
  pub is : o ≡ Some x
  pub then : f x ≡ y

-- if `option_map` gives a value, it is the function's at the option's value
pub mapped : {A B : Type 0} (f : A → B) (o : Option A) (y : B) → option_map f o ≡ Some y → Mapped f o y
mapped f None y is = absurd (cc)
mapped f (Some x) y is = record { x = x; is = refl; then = cc }

-- a value that exists only under a condition is there: the condition holds, and it is that value
pub if-so : {A : Type 0} (b : Bool) (x y : A) → cond b (Some x) None ≡ Some y → (b ≡ true) × (x ≡ y)
if-so true x y is = (refl, cc)
if-so false x y is = absurd (cc)

-- an option that counts only under a condition has a value: the condition holds, and it is the option's
pub if-then : {A : Type 0} (b : Bool) (o : Option A) (y : A) → cond b o None ≡ Some y → (b ≡ true) × (o ≡ Some y)
if-then true o y is = (refl, is)
if-then false o y is = absurd (cc)

pub none-or-some : {A : Type 0} (o : Option A) → is_none o ≡ not (is_some o)
none-or-some None = refl
none-or-some (Some x) = refl

pub from-not : (b : Bool) → not b ≡ false → b ≡ true
from-not true is = refl
from-not false is = absurd (cc)

pub not-from : (b : Bool) → not b ≡ true → b ≡ false
not-from true is = absurd (cc)
not-from false is = refl
