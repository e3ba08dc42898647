-- What the first byte of a longer character owes. Assumes nothing.
use Rattle.std.specs.Prelude.{ℕ, zero, suc, Bool, cond, Some, None, Option, ◌==◌}
use Rattle.chars.specs.declared.leads.Owed.{Owed}
use Rattle.chars.specs.Sets.{between}

abbrev pub owes : ℕ → ℕ → ℕ → Option Owed
owes more low high = Some (record { more = more; low = low; high = high })

-- the second byte is narrowed where a shorter form, a surrogate or a number past the last character would begin
abbrev pub lead_of : ℕ → Option Owed
lead_of b =
    cond (between 194 223 b) (owes 0 128 191)
    (cond (b == 224) (owes 1 160 191)
    (cond (b == 237) (owes 1 128 159)
    (cond (between 225 239 b) (owes 1 128 191)
    (cond (b == 240) (owes 2 144 191)
    (cond (between 241 243 b) (owes 2 128 191)
    (cond (b == 244) (owes 2 128 143) None))))))

-- the next byte of a character that owes bytes
abbrev pub goes_on : Owed → ℕ → Bool
goes_on o b = between o.low o.high b

-- what is owed after it, where so many bytes more were owed
abbrev pub rest_of : ℕ → Option Owed
rest_of zero = None
rest_of (suc n) = owes n 128 191
