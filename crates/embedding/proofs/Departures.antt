-- Entries that depart are no lawful history.
use Rattle.std.proofs.Common.{◌≡◌, ◌∙◌, ℕ, List, reverse, Option, Some, None, sym}
use Rattle.filing_model.specs.Histories.History.{Entry}
use Rattle.filing_model.specs.Histories.Lawful.{IsLawful}
use Rattle.filing_laws.specs.Histories.ReadingOrder.{IsDeparture}
use Rattle.filing_laws.proofs.Histories.ReadingOrders.{each_departure_is_determined}

pub departs_not_lawful : (entries : List Entry) (i : ℕ) → IsDeparture entries i → IsLawful (reverse entries) → ⊥
departs_not_lawful entries i departs lawful =
    let apart : ◌≡◌ {A = Option ℕ} (Some i) None =
    sym (((each_departure_is_determined entries).departs i).1 departs) ∙ (each_departure_is_determined entries).lawful.1 lawful in
    cc
