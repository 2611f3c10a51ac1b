-- What an ECALL asks for: by the number in one register, with the value in another.
use Rattle.std.specs.Prelude.{ℕ, ◌%◌, ◌==◌, [], ◌∷◌, find, Option}
use Rattle.rv_table.specs.declared.request.TheConstants.{REQUEST_NUMBER, REQUEST_VALUE}
use Rattle.rv_table.specs.declared.request.Request.{Request}
use Rattle.rv_table.specs.declared.request.Request.TheVariants.{PutByte, GetByte, Yield, StackLimit, End}

abbrev pub request_number : Request → ℕ
request_number (PutByte _) = 1
request_number GetByte = 2
request_number Yield = 3
request_number StackLimit = 4
request_number (End _) = 5

-- the request of the number in the register for it, if it has one
abbrev pub request_of : (ℕ → ℕ) → Option Request
request_of x =
    find (λ r. request_number r == x REQUEST_NUMBER)
    (PutByte (x REQUEST_VALUE % 256) ∷ GetByte ∷ Yield ∷ StackLimit ∷ End (x REQUEST_VALUE) ∷ [])
