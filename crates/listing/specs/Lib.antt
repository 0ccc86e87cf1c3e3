-- What a reader must believe of crate listing: numbers and sides as text (Text), the lines of the report (Report), numbers as they are typed (Number), and
-- what the commands print (Commands). Inside has what the private functions tell each other: nothing to believe.
pub mod Text
pub mod Report
pub mod Number
pub mod Commands
pub mod Inside
