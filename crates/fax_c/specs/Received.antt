-- What the receiver of a page counted of bad rows, in memory of the caller.
-- A definition without a citation is this project's profile.
use Rattle.std.specs.Prelude.{◌≡◌, ℕ, is_some, unwrap_or, List, None, Result, Ok, Err}
use Rattle.fax_files.specs.declared.bad_rows.Received.{Received}
use Rattle.fax_files.specs.BadRows.{received}
use Rattle.fax_walk.specs.declared.end.End.{End}
use Rattle.fax_walk.specs.Pages.{FilePage, read_page}
use Rattle.fax_c.specs.declared.fill.Stop.TheVariants.{Done, Ended}
use Rattle.fax_c.specs.declared.faults.FaxFault.{FaxFault}
use Rattle.fax_c.specs.declared.received.FaxReceived.{FaxReceived}
use Rattle.fax_c.specs.Numbers.{bool_number}
use Rattle.fax_c.specs.Told.{fault_of_end, no_fault, status_of}

-- each number, and before it whether the page has it; a number that it has not is 0
abbrev pub received_numbers : Received → FaxFault → FaxReceived
received_numbers its fault = record {
  has_bad_rows = bool_number (is_some its.bad_rows);
  bad_rows = unwrap_or its.bad_rows 0;
  has_clean = bool_number (is_some its.clean);
  clean = unwrap_or its.clean 0;
  has_consecutive = bool_number (is_some its.consecutive);
  consecutive = unwrap_or its.consecutive 0;
  fault = fault;
}

-- a page that says none of them
abbrev pub none_received : Received
none_received = record { bad_rows = None; clean = None; consecutive = None }

-- what is written of a page, or of the end in its place
abbrev pub received_of_page : List ℕ → Result FilePage End → FaxReceived
received_of_page file (Ok here) =
    received_numbers (received here.endian file here.offset) no_fault
received_of_page file (Err end) = received_numbers none_received (fault_of_end end)

-- the number that the call returns of a page, or of the end in its place
abbrev pub received_status : Result FilePage End → ℕ
received_status (Ok here) = status_of Done
received_status (Err end) = status_of (Ended end)

-- what the receiver of page p of a file counted is written, or the end in its place
abbrev pub TellsReceived : List ℕ → ℕ → FaxReceived → ℕ → Type 0
TellsReceived file p new status =
    let here = read_page file (record { page = p; row = 0 }) in
    (new ≡ received_of_page file here) × (status ≡ received_status here)
