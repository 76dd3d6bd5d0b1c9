-- Claims: all of it, what contracts see of a Uart. What its calls do stands in dev_face.
pub mod UartView
