-- Worked examples of numeric tables.
use Rattle.std.specs.Prelude.{◌≡◌, [], ◌∷◌, codes, Ok, Err, refl}
use Rattle.filing_model.specs.Oim.Tables.{read_table_of}
use Rattle.filing_model.specs.declared.faults.TableFault.TheVariants.{BadLine}

pub carriage_return_is_dropped : read_table_of (codes "\r\nhttp://e.org/t Cash\r\n\r\nhttp://e.org/t Debt\r")
    ≡ Ok ((codes "http://e.org/t", codes "Cash") ∷ (codes "http://e.org/t", codes "Debt") ∷ [])
carriage_return_is_dropped = refl

pub two_spaces : read_table_of (codes "http://e.org/t Assets\n\nhttp://e.org/t  Cash") ≡ Err (BadLine 3)
two_spaces = refl
