-- The row that a parsed line is.
use Rattle.script_form.specs.declared.flats.Flat.{Flat}
use Rattle.script_form.specs.declared.flats.Flat.TheVariants as f
use Rattle.value_form.specs.Mirror.{term, spot}
use Rattle.script_form.specs.Row.{Row}
use Rattle.script_form.specs.Row as r

abbrev pub row_of : Flat → Row
row_of (f.Let name x) = r.Let name (term x)
row_of (f.Read name place) = r.Read name (spot place)
row_of (f.Write place x) = r.Write (spot place) (term x)
row_of (f.Print x) = r.Print (term x)
row_of (f.If x) = r.If (term x)
row_of f.Else = r.Else
row_of f.End = r.End
row_of (f.Repeat x) = r.Repeat (term x)
row_of f.Withdraw = r.Withdraw
