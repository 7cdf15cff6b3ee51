-- The state of a script at work, and what came of it, in the words of the meaning.
use Rattle.std.specs.Prelude.{Option, Some, None}
use Rattle.value_form.specs.declared.endings.Ending.{Ending}
use Rattle.value_form.specs.Objects.{Objects}
use Rattle.script_meaning.specs.Meaning.{State, Came, Course, Goes, Stops, Over}
use Rattle.serial_model.specs.declared.works.Work.{Work}
use Rattle.serial_model.specs.declared.works.Performed.{Performed}

abbrev pub state_of : Work → State Objects
state_of w = record { names = w.names; left = w.left; lines = w.lines.items; world = w.objects }

-- it goes on, or has ended
abbrev pub came_to : Option Ending → Work → Course Objects
came_to None w = Goes (state_of w)
came_to (Some e) w = Stops (record { stop = Over e; lines = w.lines.items; world = w.objects })

abbrev pub came_of : Performed → Came Objects
came_of p = record { stop = Over p.ending; lines = p.transcript; world = p.after }
