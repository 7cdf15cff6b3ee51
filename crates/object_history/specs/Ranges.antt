-- Which marks and answers are in range: those whose objects and values have bytes.
use Rattle.pseudo_time.specs.Lists.{Every}
use Rattle.std.specs.Prelude.{List}
use Rattle.value_form.specs.ObjectBytes.{IsObject}
use Rattle.value_form.specs.ValueBytes.{IsValue}
use Rattle.object_history.specs.declared.marks.Mark.{Mark}
use Rattle.object_history.specs.declared.marks.Mark.TheVariants.{Put, Stretch, Settle, Floor}
use Rattle.object_history.specs.declared.steps.ReadStep.{ReadStep}
use Rattle.object_history.specs.declared.steps.ReadStep.TheVariants.{Answer, Wait, LaterRead}

abbrev pub IsMark : Mark → Type 0
IsMark (Put o x v) = IsObject o × IsValue v
IsMark (Stretch o x) = IsObject o
IsMark (Settle s c) = Unit {0}
IsMark (Floor z) = Unit {0}

abbrev pub AreMarks : List Mark → Type 0
AreMarks m = Every IsMark m

abbrev pub IsReadStep : ReadStep → Type 0
IsReadStep (Answer v stretch) = IsValue v
IsReadStep (Wait s) = Unit {0}
IsReadStep (LaterRead e) = Unit {0}
