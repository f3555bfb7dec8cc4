-- What a call says: how much it wrote, where to continue, why it wrote no more, and the fault. A
-- definition without a citation is this project's profile.
use Rattle.std.specs.Prelude.{◌≡◌, ℕ, unwrap_or}
use Rattle.fax_files.specs.FaultNames.{fault_tag}
use Rattle.fax_files.specs.declared.Cause.{Cause}
use Rattle.fax_files.specs.declared.Cause.TheVariants.{Strip}
use Rattle.fax_page.specs.declared.RowsEnd.{RowsEnd}
use Rattle.fax_page.specs.declared.RowsEnd.TheVariants as rows
use Rattle.fax_walk.specs.declared.cursor.Cursor.{Cursor}
use Rattle.fax_walk.specs.declared.end.End.{End}
use Rattle.fax_walk.specs.declared.end.End.TheVariants.{EndOfPages, Fault, Outside}
use Rattle.fax_c.specs.declared.faults.FaxFault.{FaxFault}
use Rattle.fax_c.specs.declared.fill.Stop.{Stop}
use Rattle.fax_c.specs.declared.fill.Stop.TheVariants.{Done, Ended, Memory, NoRoom}
use Rattle.fax_c.specs.declared.fill.Filled.{Filled}
use Rattle.fax_c.specs.declared.told.FaxTold.{FaxTold}
use Rattle.fax_c.specs.FaultNumbers.{fault_number, too_many_rows_number}

-- no fault
abbrev pub no_fault : FaxFault
no_fault = record { number = 0; tag = 0; page = 0; row = 0 }

-- a fault at this row of a page
abbrev pub fault_of_cause : ℕ → ℕ → Cause → FaxFault
fault_of_cause page row cause = record {
  number = fault_number cause;
  tag = unwrap_or (fault_tag cause) 0;
  page = page;
  row = row;
}

-- the fault of an end
abbrev pub fault_of_end : End → FaxFault
fault_of_end (Fault page row cause) = fault_of_cause page row cause
fault_of_end end = no_fault

-- the reported fault
abbrev pub fault_of : Stop → FaxFault
fault_of (Ended end) = fault_of_end end
fault_of stop = no_fault

-- the number that a call returns: all that was asked for is written, there is no more, as the end
-- says, memory was refused, the next row has no room
abbrev pub status_of : Stop → ℕ
status_of Done = 0
status_of (Ended EndOfPages) = 1
status_of (Ended (Fault page row cause)) = 2
status_of (Ended Outside) = 3
status_of Memory = 4
status_of NoRoom = 5

-- nothing is written at a place, for this reason
abbrev pub none_filled_at : Cursor → Stop → Filled
none_filled_at cursor stop = record { cursor = cursor; count = 0; used = 0; stop = stop }

-- what was written is reported, with this fault, and this number is returned
pub record IsToldWith (filled : Filled) (its : FaxFault) (number : ℕ) (told : FaxTold)
    (status : ℕ) : Type 0 where
  pub count : told.count ≡ filled.count
  pub used : told.used ≡ filled.used
  pub page : told.page ≡ filled.cursor.page
  pub row : told.row ≡ filled.cursor.row
  pub fault : told.fault ≡ its
  pub answer : status ≡ number

-- what was written is reported, and why it is no more
abbrev pub IsTold : Filled → FaxTold → ℕ → Type 0
IsTold filled = IsToldWith filled (fault_of filled.stop) (status_of filled.stop)

-- the number that a call returns where rows of a strip of unknown height end so
abbrev pub end_status : RowsEnd → ℕ
end_status rows.Marked = 1
end_status rows.DataEnd = 9
end_status (rows.Fault fault) = 2
end_status rows.TooMany = 2

-- the fault of rows of a strip of unknown height, at this row of a page after them
abbrev pub end_fault : ℕ → ℕ → RowsEnd → FaxFault
end_fault page row (rows.Fault fault) = fault_of_cause page row (Strip fault)
end_fault page row rows.TooMany =
    record { number = too_many_rows_number; tag = 0; page = page; row = row }
end_fault page row end = no_fault
